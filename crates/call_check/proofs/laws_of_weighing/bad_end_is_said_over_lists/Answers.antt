use Rattle.call_check.proofs.SecondReading.{bad_end_is_said}
use Rattle.call_check.proofs.laws_of_weighing.bad_end_is_said_over_lists.Goals as goal

pub returns : goal.returns
returns x = bad_end_is_said
