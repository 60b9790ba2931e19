use Rattle.call_check.proofs.SecondReading.{good_is_said}
use Rattle.call_check.proofs.laws_of_weighing.good_is_said_over_lists.Goals as goal

pub returns : goal.returns
returns x = good_is_said
