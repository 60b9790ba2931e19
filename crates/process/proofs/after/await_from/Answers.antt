use Rattle.std.proofs.Common.{sym, arith, rules}
use Rattle.process.specs.{call_of}
use Rattle.process.proofs.AfterParts.{awaits-none, awaits-some}
use Rattle.process.proofs.after.await_from.Goals as goal

pub first_other-requires : goal.first_other-requires
first_other-requires c = omega (arith, c.requires.first, c.requires.call.processes)

pub returns-in-Some-clause-part : goal.returns-in-Some-clause-part
returns-in-Some-clause-part c = λ seen. awaits-some (call_of c.args.call.now) seen c.args.ticket c.args.first c.in-Some.owner c.requires.first (sym c.in-Some.ensures)

pub returns-in-None-clause-part : goal.returns-in-None-clause-part
returns-in-None-clause-part c = λ seen.
    let none = awaits-none (call_of c.args.call.now) seen c.args.ticket c.args.first c.requires.first (sym c.in-None.ensures) in
    search rules
