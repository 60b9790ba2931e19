-- A core makes an event that is not refused, with each history with which it shows some events.
use Rattle.std.proofs.lemmas.Option.{slice_get_within}
use Rattle.std.proofs.Common.{◌≡◌, ℕ, zero, suc, ◌+◌, ◌<◌, ◌≤◌, Bool, true, false, cond, List, [], ◌∷◌, Option, None, Some, length, map, refl, sym, ap, subst, ◌∙◌, arith}
use Rattle.std.specs.Prelude.{slice_get, slice_index_or, slice_set}
use Rattle.std.proofs.lemmas.List.{length-map, length-set, length_push}
use Rattle.plain_store.specs.{Command, Reply, Setup}
use Rattle.model.specs.{Access, Entry, Event, Past, Taken, call_number, entry_of, history, is_call, is_event, last_command, own, past_of, placed, process_of, refused, reply_taken, value_of}
use Rattle.model.specs.declared.events.Event.TheVariants as event
use Rattle.process.specs.{EventOutcome, answered_at, marks_of}
use Rattle.world.specs.{CoreGoes, CoreRefuses, CoreState, KeepsCore, Seat, access_made, call_in, core_after, history_with, is_pending, is_waiting, marks_made, pending, pending_in, seat_after, seat_of, reported, with_history, with_taken}
use Rattle.world.specs.Shows.{Shows}
use Rattle.world.proofs.CoreGoes.{core-goes, entry_made, entry_reported, made}
use Rattle.world.proofs.WorldOpen.{core-shown, core_of, history-shown, is-allowed, many-seats, seat-indexed, seat-shown}
use Rattle.world.proofs.WorldPending.{fails-pending, keeps, pending-most, pending-set, pending-reported, takes}
use Rattle.world.proofs.WorldShows.{history-then, reply-placed, shows-on}

-- an event of a core, by the seat of its process; it is not refused
pub record IsNext (c : CoreState) (what : Event) (seat : Seat) : Type 0 where
  pub given : is_event what ≡ true
  pub there : slice_get c.seats (process_of what) ≡ Some seat
  pub allowed : CoreRefuses c what None

-- A command that is taken.

-- the command makes the history longer by one
pub taken_length : (h : List Taken) (p : ℕ) (command : Command) (number : ℕ) (o : Option Reply) → length (with_taken h p command number o) ≡ length h + elim o as (λ _. ℕ) [ None ↦ 0 | Some r ↦ 1 ]
taken_length h p command number None = omega arith
taken_length h p command number (Some r) = length_push h (record { process = p; command = command; reply = r; number = number })

-- the last call of a process is that of its seat after the event
call-set : (seats : List Seat) (waited waits : Bool) (p i : ℕ) (then : Seat) → i < length seats → call_in (map (reported p waited waits) (slice_set seats i then)) i ≡ (then.process.command, then.process.number)
call-set [] waited waits p i then l = absurd (omega (arith, l))
call-set (x ∷ seats) waited waits p zero then l = refl
call-set (x ∷ seats) waited waits p (suc i) then l = call-set seats waited waits p i then (omega (arith, l))

-- the call of the seat before the event and the call after it take the same command
taken-then : (c : CoreState) (seat : Seat) (what : Event) (h : List Taken) → with_taken h (process_of what) (seat_after c seat what).process.command (seat_after c seat what).process.number (reply_taken (marks_made c.registers seat what))
    ≡ with_taken h (process_of what) seat.process.command seat.process.number (reply_taken (marks_made c.registers seat what))
taken-then c seat (event.Call p command) h = refl
taken-then c seat (event.Step p flick) h = refl
taken-then c seat (event.Fail p) h = refl
taken-then c seat (event.Withdraw p) h = refl
taken-then c seat (event.Restart p) h = refl

-- the history after the event
abbrev history_after : CoreState → Seat → Event → List Taken → List Taken
history_after c seat what h = history_with h (core_after c seat what) (process_of what) (reply_taken (marks_made c.registers seat what))

history-is : (c : CoreState) (seat : Seat) (what : Event) (h : List Taken) → process_of what < length c.seats →
    history_after c seat what h ≡ with_taken h (process_of what) seat.process.command seat.process.number (reply_taken (marks_made c.registers seat what))
history-is c seat what h l =
    let last = call-set c.seats (is_waiting seat) (is_waiting (seat_after c seat what)) (process_of what) (process_of what) (seat_after c seat what) l in
    (λ i. with_taken h (process_of what) (last i).0 (last i).1 (reply_taken (marks_made c.registers seat what))) ∙ taken-then c seat what h

-- With one history.

module _ (c : CoreState) (taken : List Taken) (events : List Event) (what : Event) (seat : Seat) (shows : Shows (with_history c taken) events) (n : IsNext c what seat) where
  abbrev s : Setup
  s = c.setup

  abbrev past : Past
  past = past_of s events

  abbrev p : ℕ
  p = process_of what

  allowed : refused s past what ≡ None
  allowed = n.allowed taken events shows

  core-is : c ≡ core_of s past
  core-is = core-shown c taken events shows

  seat-is : seat ≡ seat_of s past p
  seat-is = seat-shown (with_history c taken) events p seat shows n.there

  taken-is : taken ≡ history s past
  taken-is = history-shown c taken events shows

  reported-is : entry_reported c seat (length taken) what ≡ entry_made s past what
  reported-is = λ i. entry_reported (core-is i) (seat-is i) (length (taken-is i)) what

  pub next-adds : entry_of s past what ≡ Some (entry_reported c seat (length taken) what)
  next-adds = made s shows.good events what allowed ∙ ap Some (sym reported-is)

  history-goes : history_after c seat what taken ≡ history s (entry_made s past what ∷ past)
  history-goes =
      history-is c seat what taken (slice_get_within c.seats p seat n.there)
      ∙ (λ i. with_taken (taken-is i) p (seat-is i).process.command (seat-is i).process.number (reply_taken (marks_made (core-is i).registers (seat-is i) what)))
      ∙ ap (with_taken (history s past) p (last_command (own p past)) (call_number s (own p past))) (sym (reply-placed (length (history s past)) (marks_made (core_of s past).registers (seat_of s past p) what)))
      ∙ sym (history-then s past (entry_made s past what))

  pub next-shows : Shows (with_history (core_after c seat what) (history_after c seat what taken)) (what ∷ events)
  next-shows = shows-on s shows.good events what (entry_made s past what) (made s shows.good events what allowed) shows.given n.given _
      (λ i. with_history (((λ j. core_after (core-is j) (seat-is j) what) ∙ core-goes s shows.good events what allowed) i) (history-goes i))

-- The number of pending calls.

-- a boolean as a number
counted : (a b : Bool) → (a ≡ false → b ≡ false) → cond b 1 0 ≤ cond a 1 0
counted true true h = omega arith
counted true false h = omega arith
counted false true h = let no : true ≡ false = h refl in cc
counted false false h = omega arith

counted-taken : (a b : Bool) → a ≡ true → b ≡ false → cond b 1 0 + 1 ≤ cond a 1 0
counted-taken true false was now = omega arith
counted-taken true true was now = cc
counted-taken false b was now = cc

-- the pending calls of the seat
abbrev taking_of : Option Reply → ℕ
taking_of o = elim o as (λ _. ℕ) [ None ↦ 0 | Some r ↦ 1 ]

seat-pending : (c : CoreState) (seat : Seat) (what : Event) → is_call what ≡ false → pending (seat_after c seat what) + taking_of (reply_taken (marks_made c.registers seat what)) ≤ pending seat
seat-pending c seat (event.Call p command) other = cc
seat-pending c seat (event.Step p flick) other = go (reply_taken (marks_made c.registers seat (event.Step p flick))) refl
  where
    v : Bool
    v = value_of (answered_at seat.process c.registers flick).how

    go : (o : Option Reply) → reply_taken (marks_made c.registers seat (event.Step p flick)) ≡ o → pending (seat_after c seat (event.Step p flick)) + taking_of o ≤ pending seat
    go None is =
        let less = counted (is_pending seat.process.doing) (is_pending (seat_after c seat (event.Step p flick)).process.doing) (keeps seat.process.setup seat.process.process seat.process.doing flick v) in
        omega (arith, less)
    go (Some r) is = let both = takes seat.process.setup seat.process.process seat.process.doing flick v r is in counted-taken _ _ both.0 both.1
seat-pending c seat (event.Fail p) other =
    let less = counted (is_pending seat.process.doing) (is_pending (seat_after c seat (event.Fail p)).process.doing) (fails-pending seat.process.setup seat.process.process seat.process.command seat.process.number seat.process.doing) in
    omega (arith, less)
seat-pending c seat (event.Withdraw p) other = omega arith
seat-pending c seat (event.Restart p) other = omega arith

-- the pending calls of all seats
next-pending : (c : CoreState) (seat : Seat) (what : Event) → slice_get c.seats (process_of what) ≡ Some seat →
    pending_in (core_after c seat what).seats + pending seat ≡ pending_in c.seats + pending (seat_after c seat what)
next-pending c seat what there =
    let reported = pending-reported (process_of what) (is_waiting seat) (is_waiting (seat_after c seat what)) (slice_set c.seats (process_of what) (seat_after c seat what)) in
    let set = pending-set c.seats (process_of what) (seat_after c seat what) seat there in
    omega (arith, reported, set)

pub next-fewer : (c : CoreState) (seat : Seat) (what : Event) → slice_get c.seats (process_of what) ≡ Some seat → is_call what ≡ false →
    pending_in (core_after c seat what).seats + taking_of (reply_taken (marks_made c.registers seat what)) ≤ pending_in c.seats
next-fewer c seat what there other = let all = next-pending c seat what there in let own = seat-pending c seat what other in omega (arith, all, own)

many-after : (c : CoreState) (seat : Seat) (what : Event) → length (core_after c seat what).seats ≡ length c.seats
many-after c seat what =
    length-map (slice_set c.seats (process_of what) (seat_after c seat what)) (reported (process_of what) (is_waiting seat) (is_waiting (seat_after c seat what)))
    ∙ length-set c.seats (process_of what) (seat_after c seat what)

next-few : (c : CoreState) (seat : Seat) (what : Event) → slice_get c.seats (process_of what) ≡ Some seat →
    pending_in (core_after c seat what).seats + taking_of (reply_taken (marks_made c.registers seat what)) ≤ length c.seats
next-few c seat (event.Call p command) there =
    let most = pending-most (core_after c seat (event.Call p command)).seats in let many = many-after c seat (event.Call p command) in omega (arith, most, many)
next-few c seat (event.Step p flick) there = let fewer = next-fewer c seat (event.Step p flick) there refl in let most = pending-most c.seats in omega (arith, fewer, most)
next-few c seat (event.Fail p) there = let fewer = next-fewer c seat (event.Fail p) there refl in let most = pending-most c.seats in omega (arith, fewer, most)
next-few c seat (event.Withdraw p) there = let fewer = next-fewer c seat (event.Withdraw p) there refl in let most = pending-most c.seats in omega (arith, fewer, most)
next-few c seat (event.Restart p) there = let fewer = next-fewer c seat (event.Restart p) there refl in let most = pending-most c.seats in omega (arith, fewer, most)

-- The core that a method gets, which contracts see as another one.

-- the invariant of a core, with the history and the events that it shows
pub keeps_core : (c : CoreState) (taken : List Taken) (events : List Event) → Shows (with_history c taken) events → KeepsCore c
keeps_core c taken events shows = record { taken = taken; events = events; shows = shows }

-- the process of an event that is not refused exists
pub core_in : (c d : CoreState) (what : Event) → KeepsCore c → c ≡ d → CoreRefuses d what None → process_of what < length c.seats
core_in c d what k is ok =
    let allowed : CoreRefuses c what None = subst (λ (x : CoreState). CoreRefuses x what None) (sym is) ok in
    let below = (is-allowed c.setup (past_of c.setup k.events) what (allowed k.taken k.events k.shows)).below in
    let many = many-seats (with_history c k.taken) k.events k.shows in
    omega (arith, below, many)

-- its seat is found by its index
pub next-at : (c d : CoreState) (what : Event) (i : ℕ) (seat : Seat) → KeepsCore c → c ≡ d → CoreRefuses d what None → is_event what ≡ true → i ≡ process_of what → seat ≡ slice_index_or c.seats i seat → IsNext c what seat
next-at c d what i seat k is ok given index at = record {
  given = given;
  there = let l = core_in c d what k is ok in seat-indexed c.seats i (process_of what) seat index (omega (arith, l, index)) at;
  allowed = subst (λ (x : CoreState). CoreRefuses x what None) (sym is) ok;
}

-- the core keeps its invariant
pub next-keeps : (c new : CoreState) (what : Event) (seat : Seat) → KeepsCore c → IsNext c what seat → new ≡ core_after c seat what → KeepsCore new
next-keeps c new what seat k n is = subst KeepsCore (sym is) (keeps_core _ _ _ (next-shows c k.taken k.events what seat k.shows n))

-- the core makes the event
pub next-goes : (c d new : CoreState) (what : Event) (effect : EventOutcome) (access : Option Access) (seat : Seat) → c ≡ d → IsNext c what seat →
    access ≡ access_made c.registers seat what → marks_of effect ≡ marks_made c.registers seat what → new ≡ core_after c seat what → CoreGoes d what effect access new
next-goes c d new what effect access seat view n access_is marks is =
    subst (λ (d : CoreState). CoreGoes d what effect access new) view (subst (CoreGoes c what effect access) (sym is) (record {
      adds = λ taken events shows. next-adds c taken events what seat shows n ∙ (λ i. let e : Entry = record { process = process_of what; access = sym access_is i; marks = map (placed (length taken)) (sym marks i) } in Some e);
      makes = record {
        there = let l = slice_get_within c.seats (process_of what) seat n.there in let many = many-after c seat what in omega (arith, l, many);
        goes = λ taken events shows. subst (λ o. Shows (with_history (core_after c seat what) (history_with taken (core_after c seat what) (process_of what) o)) (what ∷ events)) (ap reply_taken (sym marks)) (next-shows c taken events what seat shows n);
      };
      pending = λ other. subst (λ o. pending_in (core_after c seat what).seats + taking_of o ≤ pending_in c.seats) (ap reply_taken (sym marks)) (next-fewer c seat what n.there other);
      few = subst (λ o. pending_in (core_after c seat what).seats + taking_of o ≤ length c.seats) (ap reply_taken (sym marks)) (next-few c seat what n.there);
      setup = refl;
    }))
