-- Memory units are short.
use Rattle.laws.proofs.UnitSteps.{few_accesses}
use Rattle.laws.proofs.lock.units_are_short.Goals as goal

pub returns : goal.returns
returns x = few_accesses
