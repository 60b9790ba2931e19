use Rattle.call_check.proofs.SameVerdicts.{verdict_is_one}
use Rattle.call_check.proofs.laws_of_weighing.verdict_is_one.Goals as goal

pub returns : goal.returns
returns x = verdict_is_one
