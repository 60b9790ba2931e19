use Rattle.std.proofs.Common.{sym, ◌∙◌}
use Rattle.safe_monitor.specs.declared.monitored_bit.ReadEnd.TheVariants.{Writing}
use Rattle.safe_monitor.proofs.Calm.{closed_then}
use Rattle.safe_monitor.proofs.monitored_bit.ReadEnd.closed.Goals as goal

pub returns-in-Writing-clause-ended : goal.returns-in-Writing-clause-ended
returns-in-Writing-clause-ended c = λ opening moves h. closed_then Writing opening moves (sym c.in-Writing.is ∙ h)

pub returns-in-Writing-clause-settled : goal.returns-in-Writing-clause-settled
returns-in-Writing-clause-settled c = λ value opening moves h. closed_then Writing opening moves (sym c.in-Writing.is ∙ h)
