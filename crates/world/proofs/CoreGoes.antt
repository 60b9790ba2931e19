-- The core after an event is that of the past with the entry that the event adds.
use Rattle.std.proofs.Common.{◌≡◌, ℕ, suc, ◌+◌, ◌==◌, Bool, true, false, cond, List, ◌∷◌, Option, Some, None, Ok, length, map, refl, sym, ap, ◌∙◌, arith, eq-eqb}
use Rattle.std.specs.Prelude.{fold, nat_lt, slice_set, unwrap_or}
use Rattle.std.specs.List.{range_with_len}
use Rattle.plain_store.specs.{Setup, checked}
use Rattle.model.specs.{Access, Entry, Event, Past, Raises, added, call_number, calls_in, enter, entry_of, has, history, is_called, is_waiting_stage, last_command, own, past_of, placed, process_of, processes, refused, stage, stage_after, value_of, valued}
use Rattle.model.specs.declared.access.Field.TheVariants.{Choosing}
use Rattle.model.specs.declared.events.Event.TheVariants as event
use Rattle.model.specs.safe_bit.declared.moves.Move.TheVariants.{BeginRead}
use Rattle.model.proofs.Accepted.{accepted_adds}
use Rattle.model.proofs.Staging.{no_called}
use Rattle.model.proofs.Width.{IsGood, is_good}
use Rattle.model.proofs.World.{refused-idle}
use Rattle.laws.specs.{IsThere, Runs, call, does_then, doing, marks_with, next_of}
use Rattle.laws.proofs.Cuts.{cut_is}
use Rattle.laws.proofs.Doings.{stage_of}
use Rattle.laws.proofs.Frame.{doing-goes, own-own}
use Rattle.laws.proofs.FrameInside.{stage-is}
use Rattle.laws.proofs.FrameSteps.{doing-above}
use Rattle.laws.proofs.HeldThere.{access_there}
use Rattle.laws.proofs.Steps.{StepIs, step_is}
use Rattle.laws.proofs.Theorems.{less, not_less}
use Rattle.process.specs.{ProcessState, answered_at, next_number, process_after, stage_doing}
use Rattle.process.specs.registers.{answered}
use Rattle.world.specs.{CoreState, Seat, access_made, core_after, is_waiting, marks_made, registers_made, seat_after, seat_of, reported, waiting_in, waits_in}
use Rattle.world.proofs.QueueAfter.{before-called}
use Rattle.world.proofs.QueueBegun.{begun-after}
use Rattle.world.proofs.WorldLists.{get-beyond, get-mapped}
use Rattle.world.proofs.WorldOpen.{core_of, is-allowed}
use Rattle.world.proofs.WorldRegisters.{answers, registers-dropped, registers-made, registers-stay, registers_at}
use Rattle.world.proofs.WorldSeats.{all-seats, begun-kept, begun-stepped, own-seat, process-goes, waited}
use Rattle.world.proofs.WorldShows.{past-after}
use Rattle.world.proofs.WorldStages.{stage-process}

-- the entry of an event, computed from a core and a history
abbrev pub entry_reported : CoreState → Seat → ℕ → Event → Entry
entry_reported c seat taken what = record { process = process_of what; access = access_made c.registers seat what; marks = map (placed taken) (marks_made c.registers seat what) }

-- this entry after a past
abbrev pub entry_made : Setup → Past → Event → Entry
entry_made s past what = entry_reported (core_of s past) (seat_of s past (process_of what)) (length (history s past)) what

-- A process that makes a step.

-- the access of the step, with the value that the registers return
step-access : (s : Setup) → checked s ≡ Ok tt → (events : List Event) (p : ℕ) (flick : Bool) (next : Access) → let past : Past = past_of s events in next_of s p (doing s p past) flick ≡ Some next → IsThere s next →
    answered_at (process_after s past p) (registers_at s past) flick ≡ valued s past flick next
step-access s ok events p flick next is there =
    let past : Past = past_of s events in
    ap (λ (o : Option Access). answered s.processes (registers_at s past) flick (unwrap_or o (record { owner = 0; field = Choosing; bit = 0; reader = 0; how = BeginRead }))) is
    ∙ answers s ok events flick next there

-- the entry of the step
step-entry : (s : Setup) → checked s ≡ Ok tt → (events : List Event) (p : ℕ) (flick : Bool) → refused s (past_of s events) (event.Step p flick) ≡ None →
    entry_of s (past_of s events) (event.Step p flick) ≡ Some (entry_made s (past_of s events) (event.Step p flick))
step-entry s ok events p flick allowed = added.1 ∙ (λ i. let e : Entry = record { process = is.process i; access = access i; marks = marks i } in Some e)
  where
    g : IsGood s
    g = is_good s ok

    past : Past
    past = past_of s events

    added : (e : Entry) × (entry_of s past (event.Step p flick) ≡ Some e)
    added = accepted_adds s g events (event.Step p flick) allowed

    is : StepIs s past p flick added.0
    is = step_is s g events p flick added.0 added.1

    there : IsThere s is.next
    there = let x : IsThere s (valued s past flick is.next) = access_there s g events (event.Step p flick) added.0 added.1 (valued s past flick is.next) is.access in record { owner = x.owner; reader = x.reader; bit = x.bit }

    same : answered_at (process_after s past p) (registers_at s past) flick ≡ valued s past flick is.next
    same = step-access s ok events p flick is.next is.is_next there

    access : added.0.access ≡ Some (answered_at (process_after s past p) (registers_at s past) flick)
    access = is.access ∙ ap Some (sym same)

    marks : added.0.marks ≡ (entry_made s past (event.Step p flick)).marks
    marks = is.marks ∙ ap (λ (a : Access). map (placed (length (history s past))) (marks_with s p (doing s p past) flick (value_of a.how))) (sym same)

-- an event that is not refused adds its entry
entry-added : (s : Setup) (past : Past) (what : Event) → refused s past what ≡ None → entry_of s past what ≡ added s past what
entry-added s past what h = ap (λ r. elim r as (λ _. Option Entry) [ Some x ↦ None | None ↦ added s past what ]) h

pub made : (s : Setup) → checked s ≡ Ok tt → (events : List Event) (what : Event) → refused s (past_of s events) what ≡ None → entry_of s (past_of s events) what ≡ Some (entry_made s (past_of s events) what)
made s ok events (event.Call p command) h = entry-added s (past_of s events) (event.Call p command) h
made s ok events (event.Step p flick) h = step-entry s ok events p flick h
made s ok events (event.Fail p) h = entry-added s (past_of s events) (event.Fail p) h
made s ok events (event.Withdraw p) h = entry-added s (past_of s events) (event.Withdraw p) h
made s ok events (event.Restart p) h = entry-added s (past_of s events) (event.Restart p) h

-- The registers.

registers-goes : (s : Setup) → checked s ≡ Ok tt → (events : List Event) (what : Event) → let past : Past = past_of s events in let e : Entry = entry_made s past what in entry_of s past what ≡ Some e →
    registers_made (core_of s past).registers (seat_of s past (process_of what)) what ≡ registers_at s (e ∷ past)
registers-goes s ok events (event.Call p command) h = sym (registers-stay s (past_of s events) (entry_made s (past_of s events) (event.Call p command)) refl refl)
registers-goes s ok events (event.Step p flick) h =
    let past : Past = past_of s events in
    let e : Entry = entry_made s past (event.Step p flick) in
    let a : Access = answered_at (process_after s past p) (registers_at s past) flick in
    registers-made s past e a refl (access_there s (is_good s ok) events (event.Step p flick) e h a refl)
registers-goes s ok events (event.Fail p) h = registers-dropped s ok events (event.Fail p) (entry_made s (past_of s events) (event.Fail p)) h refl refl
registers-goes s ok events (event.Withdraw p) h = registers-dropped s ok events (event.Withdraw p) (entry_made s (past_of s events) (event.Withdraw p)) h refl refl
registers-goes s ok events (event.Restart p) h = sym (registers-stay s (past_of s events) (entry_made s (past_of s events) (event.Restart p)) refl refl)

-- The process.

-- the number of a call is one more than that of the last one
next-is : (s : Setup) (mine : Past) (e : Entry) → has is_called e ≡ true → next_number s (call_number s mine) ≡ call_number s (e ∷ mine)
next-is s mine e h = go (s.version == 2) ∙ sym (ap (λ b. cond (s.version == 2) (elim b as (λ _. ℕ) [ true ↦ suc (calls_in mine) | false ↦ calls_in mine ]) 0) h)
  where
    go : (b : Bool) → cond b (cond b (calls_in mine) 0 + 1) 0 ≡ cond b (suc (calls_in mine)) 0
    go true = omega arith
    go false = refl

-- a step is not a call
step-called : (s : Setup) → checked s ≡ Ok tt → (events : List Event) (p : ℕ) (flick : Bool) → let past : Past = past_of s events in let e : Entry = entry_made s past (event.Step p flick) in
    entry_of s past (event.Step p flick) ≡ Some e → has is_called e ≡ false
step-called s ok events p flick h =
    let e : Entry = entry_made s (past_of s events) (event.Step p flick) in
    no_called e.marks (step_is s (is_good s ok) events p flick e h).plain

process-then : (s : Setup) → checked s ≡ Ok tt → (events : List Event) (what : Event) → let past : Past = past_of s events in let e : Entry = entry_made s past what in refused s past what ≡ None → entry_of s past what ≡ Some e →
    (seat_after (core_of s past) (seat_of s past (process_of what)) what).process ≡ process_after s (e ∷ past) (process_of what)
process-then s ok events (event.Call p command) allowed h = λ i. let now : ProcessState = record {
  setup = s;
  process = p;
  doing = (ap (λ n. Runs command n (enter (call s p command n) Raises)) (next-is s (own p past) e refl) ∙ sym (doing-goes s p e past refl)) i;
  command = ap last_command (sym (own-own p e past refl)) i;
  number = (next-is s (own p past) e refl ∙ sym (ap (call_number s) (own-own p e past refl))) i;
} in now
  where
    past : Past
    past = past_of s events

    e : Entry
    e = entry_made s past (event.Call p command)
process-then s ok events (event.Step p flick) allowed h =
    let past : Past = past_of s events in
    let e : Entry = entry_made s past (event.Step p flick) in
    let is : StepIs s past p flick e = step_is s (is_good s ok) events p flick e h in
    let there : IsThere s is.next = let x : IsThere s (valued s past flick is.next) = access_there s (is_good s ok) events (event.Step p flick) e h (valued s past flick is.next) is.access in record { owner = x.owner; reader = x.reader; bit = x.bit } in
    process-goes s past e (does_then s p (doing s p past) flick (value_of (answered_at (process_after s past p) (registers_at s past) flick).how)) (step-called s ok events p flick h)
    (ap (λ (a : Access). does_then s p (doing s p past) flick (value_of a.how)) (step-access s ok events p flick is.next is.is_next there) ∙ sym is.does)
process-then s ok events (event.Fail p) allowed h =
    let past : Past = past_of s events in
    let e : Entry = entry_made s past (event.Fail p) in
    process-goes s past e _ refl (sym (doing-goes s p e past refl ∙ ap (λ at. Rattle.laws.specs.Doings.Closes (last_command (own p past)) (call_number s (own p past)) at) (cut_is s (is_good s ok) events p (is-allowed s past (event.Fail p) allowed).at)))
process-then s ok events (event.Withdraw p) allowed h =
    let past : Past = past_of s events in
    let e : Entry = entry_made s past (event.Withdraw p) in
    process-goes s past e _ refl (sym (doing-goes s p e past refl))
process-then s ok events (event.Restart p) allowed h =
    let past : Past = past_of s events in
    let e : Entry = entry_made s past (event.Restart p) in
    process-goes s past e _ refl (sym (doing-goes s p e past refl))

-- Its seat.

-- the seats show which processes wait
waits-is : (s : Setup) → IsGood s → (events : List Event) (j : ℕ) → let past : Past = past_of s events in waits_in (map (seat_of s past) (processes s)) j ≡ waited past j
waits-is s g events j = go (nat_lt j s.processes) refl
  where
    past : Past
    past = past_of s events

    by : Option Seat → Bool
    by o = elim o [ None ↦ false | Some seat ↦ is_waiting seat ]

    go : (b : Bool) → nat_lt j s.processes ≡ b → waits_in (map (seat_of s past) (processes s)) j ≡ waited past j
    go true l = ap by (get-mapped (seat_of s past) 0 s.processes j j (less j s.processes l) (omega arith)) ∙ ap is_waiting_stage (stage-process s g events j)
    go false l = ap by (get-beyond (seat_of s past) 0 s.processes j (not_less j s.processes l))
        ∙ sym (ap is_waiting_stage (stage-is s g events j ∙ ap stage_of (doing-above s g events j (not_less j s.processes l))))

waiting-is : (s : Setup) → IsGood s → (events : List Event) → let past : Past = past_of s events in waiting_in (map (seat_of s past) (processes s)) ≡ map (waited past) (range_with_len 0 16)
waiting-is s g events = ap (λ f. map f (range_with_len 0 16)) (λ i j. waits-is s g events j i)

-- whether a process waits after an entry of its own
waited-own : (past : Past) (p : ℕ) (e : Entry) → e.process ≡ p → waited (e ∷ past) p ≡ is_waiting_stage (fold stage_after (stage p past) e.marks)
waited-own past p e h = ap (λ b. is_waiting_stage (cond b (fold stage_after (stage p past) e.marks) (stage p past))) (eq-eqb e.process p h)

-- an event that is not a call
seat-then : (s : Setup) → checked s ≡ Ok tt → (events : List Event) (what : Event) → let past : Past = past_of s events in let p : ℕ = process_of what in let e : Entry = entry_made s past what in refused s past what ≡ None → entry_of s past what ≡ Some e →
    reported p (waited past p) (waited (e ∷ past) p) (seat_after (core_of s past) (seat_of s past p) what) ≡ seat_of s (e ∷ past) p
seat-then s ok events (event.Call p command) allowed h = (λ i. reported p (waits i) (now_waits i) then) ∙ (λ i. let seat : Seat = record {
  process = process-then s ok events (event.Call p command) allowed h i;
  begun = sym (begun-after s g events (event.Call p command) e h) i;
  before = (waiting-is s g events ∙ sym (before-called s g events (event.Call p command) e h refl)) i;
} in seat)
  where
    g : IsGood s
    g = is_good s ok

    past : Past
    past = past_of s events

    e : Entry
    e = entry_made s past (event.Call p command)

    then : Seat
    then = seat_after (core_of s past) (seat_of s past p) (event.Call p command)

    waits : waited past p ≡ false
    waits = ap is_waiting_stage (refused-idle p command (stage p past) (is-allowed s past (event.Call p command) allowed).at)

    now_waits : waited (e ∷ past) p ≡ false
    now_waits = waited-own past p e refl
seat-then s ok events (event.Step p flick) allowed h =
    let past : Past = past_of s events in
    let e : Entry = entry_made s past (event.Step p flick) in
    own-seat s ok events (event.Step p flick) e h (step-called s ok events p flick h) (seat_after (core_of s past) (seat_of s past p) (event.Step p flick))
    (process-then s ok events (event.Step p flick) allowed h) (begun-stepped s (is_good s ok) events (event.Step p flick) e h refl (step-called s ok events p flick h)) refl
seat-then s ok events (event.Fail p) allowed h =
    let past : Past = past_of s events in
    let e : Entry = entry_made s past (event.Fail p) in
    own-seat s ok events (event.Fail p) e h refl (seat_after (core_of s past) (seat_of s past p) (event.Fail p))
    (process-then s ok events (event.Fail p) allowed h) (begun-kept s (is_good s ok) events (event.Fail p) e h refl refl) refl
seat-then s ok events (event.Withdraw p) allowed h =
    let past : Past = past_of s events in
    let e : Entry = entry_made s past (event.Withdraw p) in
    own-seat s ok events (event.Withdraw p) e h refl (seat_after (core_of s past) (seat_of s past p) (event.Withdraw p))
    (process-then s ok events (event.Withdraw p) allowed h) (begun-kept s (is_good s ok) events (event.Withdraw p) e h refl refl) refl
seat-then s ok events (event.Restart p) allowed h =
    let past : Past = past_of s events in
    let e : Entry = entry_made s past (event.Restart p) in
    own-seat s ok events (event.Restart p) e h refl (seat_after (core_of s past) (seat_of s past p) (event.Restart p))
    (process-then s ok events (event.Restart p) allowed h) (begun-kept s (is_good s ok) events (event.Restart p) e h refl refl) refl

-- The core.

pub core-goes : (s : Setup) → checked s ≡ Ok tt → (events : List Event) (what : Event) → let past : Past = past_of s events in refused s past what ≡ None →
    core_after (core_of s past) (seat_of s past (process_of what)) what ≡ core_of s (entry_made s past what ∷ past)
core-goes s ok events what allowed = λ i. let core : CoreState = record { setup = s; registers = registers-goes s ok events what h i; seats = seats i } in core
  where
    g : IsGood s
    g = is_good s ok

    past : Past
    past = past_of s events

    p : ℕ
    p = process_of what

    e : Entry
    e = entry_made s past what

    h : entry_of s past what ≡ Some e
    h = made s ok events what allowed

    then : Seat
    then = seat_after (core_of s past) (seat_of s past p) what

    was : is_waiting (seat_of s past p) ≡ waited past p
    was = ap is_waiting_stage (stage-process s g events p)

    waits : is_waiting then ≡ waited (e ∷ past) p
    waits =
        ap (λ (now : ProcessState). is_waiting_stage (stage_doing now.doing)) (process-then s ok events what allowed h)
        ∙ ap (λ past. is_waiting_stage (stage_doing (doing s p past))) (sym (past-after s events what e h))
        ∙ ap is_waiting_stage (stage-process s g (what ∷ events) p)
        ∙ ap (λ past. waited past p) (past-after s events what e h)

    seats : map (reported p (is_waiting (seat_of s past p)) (is_waiting then)) (slice_set (map (seat_of s past) (processes s)) p then) ≡ map (seat_of s (e ∷ past)) (processes s)
    seats = (λ i. map (reported p (was i) (waits i)) (slice_set (map (seat_of s past) (processes s)) p then)) ∙ all-seats s ok events what e h then (seat-then s ok events what allowed h)
