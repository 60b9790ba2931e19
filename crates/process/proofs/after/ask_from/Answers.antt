use Rattle.std.proofs.Common.{◌≡◌, ◌-◌, take, sym, ap, ◌∙◌, arith}
use Rattle.model.specs.{to_c}
use Rattle.process.specs.{call_of, others_below, tickets_seen}
use Rattle.process.proofs.AfterParts.{asks-none, asks-some}
use Rattle.process.proofs.OthersFrom.{below-none}
use Rattle.process.proofs.after.ask_from.Goals as goal

pub returns-in-Some-clause-part : goal.returns-in-Some-clause-part
returns-in-Some-clause-part c = asks-some (call_of c.args.call.now) c.args.seen.now c.args.first c.in-Some.owner c.requires.first (sym c.in-Some.ensures)

pub returns-in-None-clause-part : goal.returns-in-None-clause-part
returns-in-None-clause-part c =
    let call = c.args.call.now in
    let below = below-none call.setup.processes call.process c.args.first (sym c.in-None.ensures) c.requires.call.process c.requires.first in
    let same : c.from.result - 1 ≡ others_below call.process c.args.first = omega (arith, below, c.from.ensures) in
    c.choose.ensures.part c.args.seen.now
    ∙ ap (λ k. to_c (call_of call) (take k c.args.seen.now.numbers)) same
    ∙ asks-none (call_of call) (tickets_seen call.process c.args.first c.args.seen.now) c.args.first c.requires.first (sym c.in-None.ensures)

pub returns-in-None-clause-holds : goal.returns-in-None-clause-holds
returns-in-None-clause-holds c = c.choose.ensures.holds c.args.seen.now
