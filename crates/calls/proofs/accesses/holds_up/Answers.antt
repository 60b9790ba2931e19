use Rattle.std.proofs.Common.{ap, sym}
use Rattle.calls.specs.{holds_up}
use Rattle.calls.proofs.accesses.holds_up.Goals as goal

pub returns-in-Choosing : goal.returns-in-Choosing
returns-in-Choosing c = sym (ap (λ f. holds_up c.args.process c.args.ticket c.args.owner f c.args.number) c.in-Choosing.is)
