use Rattle.std.proofs.Common.{sym, ◌∙◌}
use Rattle.safe_monitor.proofs.Calm.{bound_calm, free_overlapped}
use Rattle.safe_monitor.proofs.monitored_bit.ReadEnd.is_overlapped.Goals as goal

pub returns-in-Bound : goal.returns-in-Bound
returns-in-Bound c = λ opening moves h begins. bound_calm _ opening moves (sym c.in-Bound.is ∙ h)

pub returns-in_default : goal.returns-in_default
returns-in_default c = λ opening moves h begins. free_overlapped c.args.self opening moves h c.in_default.not-Bound begins
