use Rattle.std.proofs.Common.{◌≡◌, ◌∷◌, length, Some, None, sym, ap, subst, ◌∙◌}
use Rattle.std.specs.Vec.{vec_capacity}
use Rattle.model.specs.declared.events.Event.TheVariants.{Step}
use Rattle.model.specs.{reply_taken}
use Rattle.process.specs.declared.outcomes.EventOutcome.TheVariants.{Steps}
use Rattle.process.specs.{act_of, marks_reported}
use Rattle.world.specs.{Adds, CoreState, GoesOn, IsRefused, KeepOthers, KeepsTheMainTheorem, KeepsWorld, ReportsChanges, ReportsOverlapped, call_in, with_history, with_taken}
use Rattle.world.specs.Shows.{Shows, WorldState}
use Rattle.world.proofs.WorldMainTheorem.{keeps_main_theorem}
use Rattle.world.proofs.WorldKeeps.{step_keeps}
use Rattle.world.proofs.world.World.step.Goals as goal

pub invariant_of-self : goal.invariant_of-self
invariant_of-self c =
    let before = c.self.inside.history.items in
    let last = call_in c.step.new.self.seats c.args.process in
    step_keeps c.self.inside.core c.step.new.self before c.take.new.history.items c.args.process c.args.flick c.step.new.reported _ _ c.self.invariant c.in-Ok.ensures.shows c.in-Ok.ensures.pending
    (c.take.ensures.items ∙ ap (with_taken before c.args.process last.0 last.1) c.reply.ensures) c.take.ensures.capacity

pub returns-in-Ok-clause-accepted : goal.returns-in-Ok-clause-accepted
returns-in-Ok-clause-accepted c = subst (λ (w : WorldState). Adds w (Step c.args.process c.args.flick) c.args.process (act_of (length w.history) (record { access = Some c.in-Ok.made.access; effect = Steps c.step.new.reported }))) c.self.view_is (c.in-Ok.ensures.accepted c.self.inside.history.items)

pub returns-in-Ok-clause-changes : goal.returns-in-Ok-clause-changes
returns-in-Ok-clause-changes c = subst (λ (w : WorldState). ReportsChanges w c.step.new.reported) c.self.view_is (c.in-Ok.ensures.changes c.self.inside.history.items)

pub returns-in-Ok-clause-shows : goal.returns-in-Ok-clause-shows
returns-in-Ok-clause-shows c =
    let before = c.self.inside.history.items in
    let last = call_in c.step.new.self.seats c.args.process in
    let taken = c.take.ensures.items ∙ ap (with_taken before c.args.process last.0 last.1) c.reply.ensures in
    subst (λ (w : WorldState). GoesOn w (Step c.args.process c.args.flick) (with_history c.step.new.self c.take.new.history.items)) c.self.view_is
    (λ events shows. subst (λ h. Shows (with_history c.step.new.self h) (Step c.args.process c.args.flick ∷ events)) (sym taken) (c.in-Ok.ensures.shows.goes before events shows))

pub returns-in-Err-clause-refused : goal.returns-in-Err-clause-refused
returns-in-Err-clause-refused c = subst (λ (w : WorldState). IsRefused w (Step c.args.process c.args.flick) (Some c.in-Err.refusal)) c.self.view_is (c.in-Err.ensures.refused c.self.inside.history.items)

pub returns-in-Err-clause-through : goal.returns-in-Err-clause-through
returns-in-Err-clause-through c = λ events shows none.
    let is : IsRefused c.args.self.now (Step c.args.process c.args.flick) (Some c.in-Err.refusal) = subst (λ (w : WorldState). IsRefused w (Step c.args.process c.args.flick) (Some c.in-Err.refusal)) c.self.view_is (c.in-Err.ensures.refused c.self.inside.history.items) in
    let both : Some c.in-Err.refusal ≡ None = sym (is events shows) ∙ none in
    absurd (cc)

pub returns-in-Ok-clause-main_theorem : goal.returns-in-Ok-clause-main_theorem
returns-in-Ok-clause-main_theorem c =
    let before = c.self.inside.history.items in
    let last = call_in c.step.new.self.seats c.args.process in
    subst (λ (w : WorldState). KeepsTheMainTheorem w c.args.process (act_of (length w.history) (record { access = Some c.in-Ok.made.access; effect = Steps c.step.new.reported }))) c.self.view_is
    (keeps_main_theorem (with_history c.self.inside.core before) (with_history c.step.new.self (with_taken before c.args.process last.0 last.1 (reply_taken (marks_reported c.step.new.reported)))) (Step c.args.process c.args.flick) c.args.process _
    (c.in-Ok.ensures.accepted before) (c.in-Ok.ensures.shows.goes before) c.in-Ok.ensures.setup)

pub returns-in-Ok-clause-others : goal.returns-in-Ok-clause-others
returns-in-Ok-clause-others c = subst (λ (w : WorldState). KeepOthers w.seats c.args.process c.step.new.self.seats) c.self.view_is c.step.ensures.others

pub returns-in-Err-clause-others : goal.returns-in-Err-clause-others
returns-in-Err-clause-others c = subst (λ (w : WorldState). KeepOthers w.seats c.args.process c.step.new.self.seats) c.self.view_is c.step.ensures.others

pub returns-in-Ok-clause-overlapped : goal.returns-in-Ok-clause-overlapped
returns-in-Ok-clause-overlapped c = subst (λ (w : WorldState). ReportsOverlapped w c.in-Ok.made.access c.in-Ok.made.overlapped) c.self.view_is (c.in-Ok.ensures.overlapped c.self.inside.history.items)

pub invariant_of-self-in-Err : goal.invariant_of-self-in-Err
invariant_of-self-in-Err c =
    let history = c.self.inside.history in
    subst (λ (x : CoreState). KeepsWorld (with_history x history.items) (vec_capacity history)) (sym c.in-Err.ensures.unchanged) c.self.invariant

pub returns-in-Ok-clause-setup : goal.returns-in-Ok-clause-setup
returns-in-Ok-clause-setup c = c.in-Ok.ensures.setup ∙ ap (λ (w : WorldState). w.setup) c.self.view_is

pub returns-in-Err-clause-unchanged : goal.returns-in-Err-clause-unchanged
returns-in-Err-clause-unchanged c = ap (λ (x : CoreState). with_history x c.self.inside.history.items) c.in-Err.ensures.unchanged ∙ c.self.view_is
