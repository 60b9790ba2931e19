use Rattle.call_check.proofs.Histories.{one_history}
use Rattle.call_check.proofs.laws_of_weighing.good_is_one_history.Goals as goal

pub returns : goal.returns
returns x = one_history
