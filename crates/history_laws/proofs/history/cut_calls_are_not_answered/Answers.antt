-- Cut calls are not answered.
use Rattle.history_laws.proofs.MainTheorems.{cut_calls}
use Rattle.history_laws.proofs.history.cut_calls_are_not_answered.Goals as goal

pub returns : goal.returns
returns x = cut_calls
