use Rattle.std.proofs.Common.{◌≡◌, None, Some, cond, false, true, ap, sym, subst, rules, ◌∙◌}
use Rattle.std.specs.Prelude.{slice_get}
use Rattle.model.specs.{Access, value_of}
use Rattle.model.specs.declared.events.Event.TheVariants.{Step}
use Rattle.model.specs.declared.refusals.Refusal.TheVariants.{NotRunning}
use Rattle.process.specs.{answered_at}
use Rattle.world.specs.{CoreRefuses, CoreState}
use Rattle.world.proofs.CoreChanges.{step-changes}
use Rattle.world.proofs.CoreCode.{seated}
use Rattle.world.proofs.CoreNext.{step-next}
use Rattle.world.proofs.CoreRefused.{refused-beyond, refused-step}
use Rattle.world.proofs.cores.Core.next_step.Goals as goal

pub returns-in_default-clause-refused : goal.returns-in_default-clause-refused
returns-in_default-clause-refused c = refused-beyond c.args.self.now (Step c.args.process c.args.flick) (sym c.in_default.ensures)

pub returns-then-not-goes-clause-refused : goal.returns-then-not-goes-clause-refused
returns-then-not-goes-clause-refused c =
    let none : c.goes.result ≡ false = search rules in
    subst (λ b. CoreRefuses c.args.self.now (Step c.args.process c.args.flick) (cond b None (Some NotRunning))) (sym c.goes.ensures ∙ none)
    (refused-step c.args.self.now c.args.process c.args.flick c.in-Some.seat.now (sym c.in-Some.ensures))

pub next_step-requires-clause-memory : goal.next_step-requires-clause-memory
next_step-requires-clause-memory c =
    let i = c.self.inside in
    let core : CoreState = record { setup = i.setup; registers = i.registers; seats = i.seats.items } in
    let seat = c.in-Some.seat.now in
    (seated core c.args.process seat c.self.invariant (ap (λ (d : CoreState). slice_get d.seats c.args.process) c.self.view_is ∙ sym c.in-Some.ensures)).registers

pub returns-clause-accepted : goal.returns-clause-accepted
returns-clause-accepted c =
    let seat = c.in-Some.seat.now in
    let goes : c.goes.result ≡ true = search rules in
    let access : Access = c.next_step.result.0 in
    step-next c.args.self.now c.args.process c.args.flick seat access c.next_step.result.1 (sym c.in-Some.ensures) (sym c.goes.ensures ∙ goes)
    (c.next_step.ensures.access ∙ ap (λ (d : CoreState). answered_at seat.process d.registers c.args.flick) c.self.view_is)
    c.next_step.ensures.marks

pub returns-clause-changes : goal.returns-clause-changes
returns-clause-changes c =
    let next = c.next_step.result in
    step-changes c.args.self.now c.args.process c.args.flick (value_of next.0.how) c.in-Some.seat.now next.1 (sym c.in-Some.ensures) c.next_step.ensures.marks c.next_step.ensures.changes
