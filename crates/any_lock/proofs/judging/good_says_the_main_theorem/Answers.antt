use Rattle.any_lock.proofs.MainTheorems.{good_says}
use Rattle.any_lock.proofs.judging.good_says_the_main_theorem.Goals as goal

pub returns : goal.returns
returns c = good_says
