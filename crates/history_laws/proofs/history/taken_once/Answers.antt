-- A call takes at most one command.
use Rattle.history_laws.proofs.MainTheorems.{taken_once}
use Rattle.history_laws.proofs.history.taken_once.Goals as goal

pub returns : goal.returns
returns x = taken_once
