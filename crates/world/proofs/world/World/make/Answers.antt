use Rattle.std.proofs.Common.{◌∷◌, List, Some, ap, length, sym, subst, ◌∙◌, inl, arith}
use Rattle.std.specs.Vec.{vec_capacity}
use Rattle.process.specs.{act_of, marks_of}
use Rattle.model.specs.{Taken, process_of, reply_taken}
use Rattle.world.specs.{Adds, CoreState, EventReportsChanges, GoesOn, IsRefused, IsTurnedAway, KeepsTheMainTheorem, KeepsWorld, call_in, with_history, with_taken}
use Rattle.world.specs.Shows.{Shows, WorldState}
use Rattle.world.proofs.WorldMainTheorem.{keeps_main_theorem}
use Rattle.world.proofs.WorldKeeps.{made_keeps, made_room, wider_keeps}
use Rattle.world.proofs.world.World.make.Goals as goal

pub returns-in-Err-clause-refused : goal.returns-in-Err-clause-refused
returns-in-Err-clause-refused c = subst (λ (w : WorldState). IsTurnedAway w c.args.event.now c.in-Err.refusal) c.self.view_is (c.in-Err.ensures.refused c.self.inside.history.items)

pub invariant_of-self-in-Ok : goal.invariant_of-self-in-Ok
invariant_of-self-in-Ok c =
    let i = c.self.inside in
    let seats = c.event.new.self.seats in
    let taken = c.take.ensures.items ∙ (λ k. with_taken (c.reserve.ensures.items k) (c.process.ensures k) (call_in seats (c.process.ensures k)).0 (call_in seats (c.process.ensures k)).1 (c.reply.ensures k)) in
    let room = made_room i.core c.event.new.self i.history.items c.args.event.now c.event.new.effect _ (vec_capacity c.reserve.new.history) c.self.invariant c.reserve.ensures.capacity c.in_default.ensures.room c.in-Ok.ensures.bounded c.in-Ok.ensures.pending in
    made_keeps i.core c.event.new.self i.history.items c.take.new.history.items c.args.event.now c.event.new.effect _ (vec_capacity c.take.new.history) c.self.invariant c.in-Ok.ensures.shows (omega (arith, room, c.take.ensures.capacity)) taken

pub invariant_of-self-in-Err-event : goal.invariant_of-self-in-Err-event
invariant_of-self-in-Err-event c =
    let i = c.self.inside in
    subst (λ (x : CoreState). KeepsWorld (with_history x c.reserve.new.history.items) (vec_capacity c.reserve.new.history)) (sym c.in-Err-event.ensures.unchanged)
    (wider_keeps i.core i.history.items c.reserve.new.history.items _ _ c.self.invariant c.reserve.ensures.capacity c.reserve.ensures.items)

pub returns-in-Ok-clause-accepted : goal.returns-in-Ok-clause-accepted
returns-in-Ok-clause-accepted c = subst (λ (w : WorldState). Adds w c.args.event.now (process_of c.args.event.now) (act_of (length w.history) (record { access = c.in-Ok.access; effect = c.event.new.effect }))) c.self.view_is (c.in-Ok.ensures.accepted c.self.inside.history.items)

pub returns-in-Ok-clause-changes : goal.returns-in-Ok-clause-changes
returns-in-Ok-clause-changes c = subst (λ (w : WorldState). EventReportsChanges w c.event.new.effect) c.self.view_is (c.in-Ok.ensures.changes c.self.inside.history.items)

pub returns-in-Ok-clause-shows : goal.returns-in-Ok-clause-shows
returns-in-Ok-clause-shows c =
    let i = c.self.inside in
    let seats = c.event.new.self.seats in
    let taken = c.take.ensures.items ∙ (λ k. with_taken (c.reserve.ensures.items k) (c.process.ensures k) (call_in seats (c.process.ensures k)).0 (call_in seats (c.process.ensures k)).1 (c.reply.ensures k)) in
    subst (λ (w : WorldState). GoesOn w c.args.event.now (with_history c.event.new.self c.take.new.history.items)) c.self.view_is
    (λ events shows. subst (λ h. Shows (with_history c.event.new.self h) (c.args.event.now ∷ events)) (sym taken) (c.in-Ok.ensures.shows.goes i.history.items events shows))

pub returns-in-Err-event-clause-refused : goal.returns-in-Err-event-clause-refused
returns-in-Err-event-clause-refused c = inl (subst (λ (w : WorldState). IsRefused w c.args.event.now (Some c.in-Err-event.refusal)) c.self.view_is (c.in-Err-event.ensures.refused c.self.inside.history.items))

pub returns-in-Ok-clause-main_theorem : goal.returns-in-Ok-clause-main_theorem
returns-in-Ok-clause-main_theorem c =
    let i = c.self.inside in
    let p = process_of c.args.event.now in
    let last = call_in c.event.new.self.seats p in
    subst (λ (w : WorldState). KeepsTheMainTheorem w p (act_of (length w.history) (record { access = c.in-Ok.access; effect = c.event.new.effect }))) c.self.view_is
    (keeps_main_theorem (with_history i.core i.history.items) (with_history c.event.new.self (with_taken i.history.items p last.0 last.1 (reply_taken (marks_of c.event.new.effect)))) c.args.event.now p _
    (c.in-Ok.ensures.accepted i.history.items) (c.in-Ok.ensures.shows.goes i.history.items) c.in-Ok.ensures.setup)

pub invariant_of-self : goal.invariant_of-self
invariant_of-self c =
    let i = c.self.inside in
    wider_keeps i.core i.history.items c.reserve.new.history.items _ _ c.self.invariant c.reserve.ensures.capacity c.reserve.ensures.items

pub returns-in-Err-clause-unchanged : goal.returns-in-Err-clause-unchanged
returns-in-Err-clause-unchanged c = ap (λ (h : List Taken). with_history c.self.inside.core h) c.reserve.ensures.items ∙ c.self.view_is

pub returns-in-Ok-clause-setup : goal.returns-in-Ok-clause-setup
returns-in-Ok-clause-setup c = c.in-Ok.ensures.setup ∙ ap (λ (w : WorldState). w.setup) c.self.view_is

pub returns-in-Err-event-clause-unchanged : goal.returns-in-Err-event-clause-unchanged
returns-in-Err-event-clause-unchanged c = (λ k. with_history (c.in-Err-event.ensures.unchanged k) (c.reserve.ensures.items k)) ∙ c.self.view_is
