-- A port's process and the view of its seat, over an event other than an access.
use Rattle.std.proofs.Common.{◌≡◌, ℕ, ◌==◌, arith, Bool, true, false, cond, [], ◌∷◌, refl, sym, ap, ◌∙◌, subst, Option, Some, None}
use Rattle.std.specs.Prelude.{Ok, Err, Result}
use Rattle.plain_store.specs.{Command, Setup, is_command}
use Rattle.model.specs.{Event, Refusal, Stage, refused_at}
use Rattle.model.specs.declared.events.Event.TheVariants as event
use Rattle.model.specs.declared.stages.Stage.TheVariants as stage
use Rattle.model.specs.declared.refusals.Refusal.TheVariants.{AlreadyFailed}
use Rattle.laws.specs.{next_of}
use Rattle.process.specs.{ProcessState, next_number, process_after}
use Rattle.process.specs.Places as places
use Rattle.board.specs.declared.pending.Pending.{Pending}
use Rattle.board.specs.{IsBetween, IsTied, IsUnended, MayAllHappen, MayHappen, OwnView, PortState, SamePort, ViewState, answer_to, at_events, events_of, new_own, new_view, nothing, port_after, process_at, refusal_in, stage_in, with_event, with_events, with_pending}
use Rattle.board.proofs.Begins.{event_fresh}
use Rattle.board.proofs.Doings.{event_unended}
use Rattle.board.proofs.Happenings.{same_process, same_process_all}

-- The result of an event at a port.

pub answers_no : (port : PortState) (event : Event) (refusal : Refusal) → refusal_in port.setup port.view.own event ≡ Some refusal → (answer_to port event ≡ Err refusal) × (port_after port event ≡ port)
answers_no port event refusal h = (
  ap (λ r. elim r as (λ _. Result (Unit {0}) Refusal) [ Some refusal ↦ Err refusal | None ↦ Ok tt ]) h,
  ap (λ r. elim r as (λ _. PortState) [ Some refusal ↦ port | None ↦ record port { view = at_events port.setup port.view (event ∷ []) } ]) h,
)

pub is_accepted : (port : PortState) (event : Event) → answer_to port event ≡ Ok tt → refusal_in port.setup port.view.own event ≡ None
is_accepted port event h = grind arith

left : (port then : PortState) (o : Option Refusal) (refusal : Refusal) → Err refusal ≡ (elim o as (λ _. Result (Unit {0}) Refusal) [ Some x ↦ Err x | None ↦ Ok tt ]) → port ≡ (elim o as (λ _. PortState) [ Some x ↦ port | None ↦ then ])
left port then (Some x) refusal h = refl
left port then None refusal h = absurd (cc)

-- a refused event leaves the port unchanged
pub refused : (port : PortState) (event : ℕ → Event) (p : ℕ) (answer : Result (Unit {0}) Refusal) (refusal : Refusal) → answer ≡ Err refusal → answer ≡ answer_to port (event p) → p ≡ port.view.own.process →
    (Err refusal ≡ answer_to port (event port.view.own.process)) × (port ≡ port_after port (event port.view.own.process))
refused port event p answer refusal is reported own =
    let e = event port.view.own.process in
    let no : Err refusal ≡ answer_to port e = sym is ∙ reported ∙ ap (λ q. answer_to port (event q)) own in
    (no, left port (record port { view = at_events port.setup port.view (e ∷ []) }) (refusal_in port.setup port.view.own e) refusal no)

-- an accepted event is not refused in the state before it
pub accepted : (port before : PortState) (event : ℕ → Event) (p : ℕ) (answer : Result (Unit {0}) Refusal) → before ≡ port → answer ≡ Ok tt → answer ≡ answer_to port (event p) → p ≡ port.view.own.process →
    refusal_in before.setup before.view.own (event before.view.own.process) ≡ None
accepted port before event p answer was is reported own =
    ap (λ (q : PortState). refusal_in q.setup q.view.own (event q.view.own.process)) was ∙ ap (λ q. refusal_in port.setup port.view.own (event q)) (sym own) ∙ is_accepted port (event p) (sym reported ∙ is)

-- an event that is not refused may happen to the process
pub happens : (port before new : PortState) (event : ℕ → Event) (p : ℕ) (answer : Result (Unit {0}) Refusal) → answer ≡ Ok tt → answer ≡ answer_to port (event p) → p ≡ port.view.own.process → before ≡ port →
    new ≡ record before { view = at_events before.setup before.view (event before.view.own.process ∷ []) } →
    SamePort port new × (Ok tt ≡ answer_to port (event port.view.own.process)) × (new ≡ port_after port (event port.view.own.process))
happens port before new event p answer is reported own was then =
    let e = event port.view.own.process in
    let yes : answer_to port e ≡ Ok tt = ap (λ q. answer_to port (event q)) (sym own) ∙ sym reported ∙ is in
    let now : new ≡ record port { view = at_events port.setup port.view (e ∷ []) } = then ∙ ap (λ (q : PortState). record q { view = at_events q.setup q.view (event q.view.own.process ∷ []) }) was in (
      (
        ap (λ (q : PortState). q.table_id) now,
        ap (λ (q : PortState). q.id) now,
        ap (λ (q : PortState). q.setup) now,
        ap (λ (q : PortState). q.view.own.process) now ∙ same_process port.setup port.view.own e,
      ),
      sym yes,
      now ∙ sym (ap (λ r. elim r as (λ _. PortState) [ Some refusal ↦ port | None ↦ record port { view = at_events port.setup port.view (e ∷ []) } ]) (is_accepted port e yes)),
    )

-- An event that is not refused is allowed by the stage.

stage_allows : (s : Setup) (o : OwnView) (event : Event) → refusal_in s o event ≡ None → refused_at event (stage_in s o) ≡ None
stage_allows s o event h = grind arith

idle_at : (p : ℕ) (command : Command) (st : Stage) → refused_at (event.Call p command) st ≡ None → st ≡ stage.Idle
idle_at p command st h = grind arith

down_at : (p : ℕ) (st : Stage) → refused_at (event.Restart p) st ≡ None → st ≡ stage.Down
down_at p st h = grind arith

idle : (s : Setup) (o : OwnView) (p : ℕ) (command : Command) → refusal_in s o (event.Call p command) ≡ None → stage_in s o ≡ stage.Idle
idle s o p command h = idle_at p command (stage_in s o) (stage_allows s o (event.Call p command) h)

pub down : (s : Setup) (o : OwnView) (p : ℕ) → refusal_in s o (event.Restart p) ≡ None → stage_in s o ≡ stage.Down
down s o p h = down_at p (stage_in s o) (stage_allows s o (event.Restart p) h)

-- The tie.

-- the port after one more event is pending
abbrev pub Joins : Setup → Pending → ProcessState → Bool → ViewState → Pending → Event → Type 0
Joins s pending' new value v pending event = IsTied new.setup pending' new value v × (with_pending s pending' v ≡ at_events s (with_pending s pending v) (event ∷ []))

joined : (s : Setup) (pending pending' : Pending) (process new : ProcessState) (value : Bool) (v : ViewState) (event : Event) → IsTied s pending process value v → events_of v.own.process pending' ≡ event ∷ events_of v.own.process pending →
    MayHappen s (with_pending s pending v).own event → new ≡ process_at s (with_event s (with_pending s pending v).own event) → Joins s pending' new value v pending event
joined s pending pending' process new value v event t is may same =
    let b = (with_pending s pending v).own in
    let b' = with_event s b event in
    let tied : IsTied s pending' new value v = record {
      live = t.live;
      may = subst (MayAllHappen s v.own) (sym is) (t.may, may);
      same = subst (λ xs. new ≡ process_at s (with_events s v.own xs)) (sym is) same;
      unended = subst (λ xs. IsUnended (with_events s v.own xs).doing) (sym is) (event_unended s b event t.unended);
      between = subst (λ xs. IsBetween s value (with_events s v.own xs)) (sym is)
          (λ fl x i. let f = event_fresh s b event may fl x (ap (λ p. next_of s p b'.doing fl) (sym (same_process s b event)) ∙ i) in ((λ e. absurd (f.0 e)), f.1));
    } in (subst (λ s. IsTied s pending' new value v) (sym (ap (λ (q : ProcessState). q.setup) same)) tied, ap (at_events s v) is)

-- The stage after the pending events.

-- after a failure the memory unit is at work
pub settling : (s : Setup) (v : ViewState) (restarted withdrew : Bool) (called : Option Command) → stage_in s (with_pending s (record { restarted = restarted; called = called; withdrew = withdrew; failed = true }) v).own ≡ stage.Settling
settling s v restarted withdrew called = grind arith

-- A call.

pub joins_call : (s : Setup) (restarted failed withdrew : Bool) (called : Option Command) (process new : ProcessState) (value : Bool) (v : ViewState) (command : Command) (next : ℕ)
    → let pending : Pending = record { restarted = restarted; called = called; withdrew = withdrew; failed = failed } in
    let pending' : Pending = record { restarted = restarted; called = Some command; withdrew = withdrew; failed = failed } in
    let o : OwnView = (with_pending s pending v).own in
    IsTied s pending process value v → refusal_in s o (event.Call o.process command) ≡ None → is_command command ≡ true → next ≡ next_number process.setup process.number → new ≡ places.called process command next → Joins s pending' new value v pending (event.Call o.process command)
joins_call s restarted true withdrew called process new value v command next t may given n is = let o = (with_pending s (record { restarted = restarted; called = called; withdrew = withdrew; failed = true }) v).own in let f : stage.Settling ≡ stage.Idle = sym (settling s v restarted withdrew called) ∙ idle s o o.process command may in cc
joins_call s restarted false true called process new value v command next t may given n is = let o = (with_pending s (record { restarted = restarted; called = called; withdrew = true; failed = false }) v).own in let f : stage.Leaving ≡ stage.Idle = idle s o o.process command may in cc
joins_call s restarted false false (Some c) process new value v command next t may given n is = let o = (with_pending s (record { restarted = restarted; called = Some c; withdrew = false; failed = false }) v).own in let f : stage.Doorway ≡ stage.Idle = idle s o o.process command may in cc
joins_call s restarted false false None process new value v command next t may given n is =
    let pending : Pending = record { restarted = restarted; called = None; withdrew = false; failed = false } in
    let pending' : Pending = record { restarted = restarted; called = Some command; withdrew = false; failed = false } in
    let o = (with_pending s pending v).own in
    let number : next ≡ next_number s o.number = n ∙ ap (λ (q : ProcessState). next_number q.setup q.number) t.same in
    joined s pending pending' process new value v (event.Call o.process command) t (ap (λ p. event.Call p command ∷ events_of v.own.process pending) (sym (same_process_all s v.own (events_of v.own.process pending))))
    (record { marked = refl; process = refl; accepted = may; given = given })
    (is ∙ ap (λ q. places.called q command next) t.same ∙ ap (places.called (process_at s o) command) number)

-- A failure.

pub joins_failure : (s : Setup) (restarted failed withdrew : Bool) (called : Option Command) (process new : ProcessState) (value : Bool) (v : ViewState)
    → let pending : Pending = record { restarted = restarted; called = called; withdrew = withdrew; failed = failed } in
    let pending' : Pending = record { restarted = restarted; called = called; withdrew = withdrew; failed = true } in
    let o : OwnView = (with_pending s pending v).own in
    IsTied s pending process value v → refusal_in s o (event.Fail o.process) ≡ None → new ≡ places.failed process → Joins s pending' new value v pending (event.Fail o.process)
joins_failure s restarted true withdrew called process new value v t may is =
    let o = (with_pending s (record { restarted = restarted; called = called; withdrew = withdrew; failed = true }) v).own in
    let f : Some AlreadyFailed ≡ None = sym (ap (refused_at (event.Fail o.process)) (settling s v restarted withdrew called)) ∙ stage_allows s o (event.Fail o.process) may in cc
joins_failure s restarted false withdrew called process new value v t may is =
    let pending : Pending = record { restarted = restarted; called = called; withdrew = withdrew; failed = false } in
    let pending' : Pending = record { restarted = restarted; called = called; withdrew = withdrew; failed = true } in
    let o = (with_pending s pending v).own in
    joined s pending pending' process new value v (event.Fail o.process) t (ap (λ p. event.Fail p ∷ events_of v.own.process pending) (sym (same_process_all s v.own (events_of v.own.process pending))))
    (record { marked = refl; process = refl; accepted = may; given = refl }) (is ∙ ap places.failed t.same)

-- A port of a process that has done nothing.

no-number : (b : Bool) → cond {A = ℕ} b 0 0 ≡ (let z : ℕ = 0 in z)
no-number true = refl
no-number false = refl

pub new_tied : (process : ProcessState) (v : ViewState) (made : ℕ) → process ≡ process_after process.setup [] process.process → v ≡ new_view process.process made → IsTied process.setup nothing process false v
new_tied process v made fresh known = subst (IsTied process.setup nothing process false) (sym known) (record {
  live = refl;
  may = tt;
  same = fresh ∙ ap (λ n. record (process_at process.setup (new_own process.process)) { number = n }) (no-number (process.setup.version == 2));
  unended = tt;
  between = λ flick x i. cc;
})
