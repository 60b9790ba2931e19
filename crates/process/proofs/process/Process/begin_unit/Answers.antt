use Rattle.std.proofs.Common.{false, None, Option, sym, ap, subst, ◌∙◌}
use Rattle.std.specs.Prelude.{IfSome}
use Rattle.plain_store.specs.{Setup}
use Rattle.model.specs.{IsTornOf, TornBit}
use Rattle.registers.specs.{settling_from}
use Rattle.process.specs.declared.activity.Activity.TheVariants as work
use Rattle.process.specs.{KeepsPlace, ProcessState, doing_at, settling_with, state_at}
use Rattle.process.proofs.UnitBegins.{unit-keeps, unit-settles}
use Rattle.process.proofs.process.Process.begin_unit.Goals as goal

pub invariant_of-self : goal.invariant_of-self
invariant_of-self c =
    let q = c.self.inside in
    let there = subst (λ (s : Setup). IsTornOf s c.in-Some.torn) (sym (ap (λ (x : ProcessState). x.setup) c.self.view_is)) (subst (λ (o : Option TornBit). IfSome o (IsTornOf c.args.self.now.setup)) c.in-Some.is c.requires) in
    subst (KeepsPlace q.called (work.Settles false None)) (sym (c.settle_on.ensures.cursor ∙ (λ i. settling_from (c.setup.ensures i) (c.process.ensures i) c.in-Some.torn)))
    (unit-keeps q.called c.in-Some.torn c.self.invariant.call there c.settle_on.ensures.value)

pub returns-in-Some : goal.returns-in-Some
returns-in-Some c =
    let q = c.self.inside in
    let is = sym c.in-Some.is in
    let there = subst (λ (s : Setup). IsTornOf s c.in-Some.torn) (sym (ap (λ (x : ProcessState). x.setup) c.self.view_is)) (subst (λ (o : Option TornBit). IfSome o (IsTornOf c.args.self.now.setup)) c.in-Some.is c.requires) in
    ap (state_at q.called (work.Settles false None)) (c.settle_on.ensures.cursor ∙ (λ i. settling_from (c.setup.ensures i) (c.process.ensures i) c.in-Some.torn))
    ∙ unit-settles q.called c.in-Some.torn (doing_at q.called q.work q.cursor) there
    ∙ (λ i. settling_with (c.self.view_is i) (is i))
