use Rattle.std.proofs.Common.{arith}
use Rattle.process.specs.{call_of}
use Rattle.process.proofs.AfterParts.{version-some}
use Rattle.process.proofs.after.version_from.Goals as goal

pub returns-else-first-call-clause-part : goal.returns-else-first-call-clause-part
returns-else-first-call-clause-part c = λ seen. version-some (call_of c.args.call.now) seen c.args.first (omega (arith, c.requires, c.if-first-call.false))
