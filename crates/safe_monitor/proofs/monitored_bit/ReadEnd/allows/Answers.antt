use Rattle.safe_monitor.proofs.Calm.{free_allows}
use Rattle.safe_monitor.proofs.monitored_bit.ReadEnd.allows.Goals as goal

pub returns-in_default : goal.returns-in_default
returns-in_default c = λ opening moves h. free_allows c.args.self c.args.value opening moves h c.in_default.not-Bound
