-- A world without its history: its state, and the records that it shows with a history.
use Rattle.std.specs.Prelude.{◌≡◌, ℕ, ◌+◌, ◌<◌, ◌≤◌, Bool, true, false, List, Option, None, Some, length, slice_get}
use Rattle.std.specs.Global.{Vec}
use Rattle.std.specs.Vec.{vec_capacity, vec_len}
use Rattle.plain_store.specs.{Command, Reply, Setup}
use Rattle.plain_store.specs.declared.Command.TheVariants.{Ask}
use Rattle.model.specs.{Access, Event, Past, Refusal, Taken, is_call, process_of, reply_taken}
use Rattle.model.specs.declared.events.Event.TheVariants.{Step}
use Rattle.process.specs.{EventOutcome, StepOutcome, marks_of}
use Rattle.process.specs.declared.outcomes.EventOutcome.TheVariants.{Steps}
use Rattle.process.specs.registers.{AreAlikeMemories}
use Rattle.model.specs.safe_bit.Cell.{Cell}
use Rattle.world.specs.Changes.{pending_in, with_taken}
use Rattle.world.specs.Events.{AddsEvent, EventReportsChanges, GoesOn, InEachPast, IsRefused, IsTurnedAway, UnlessRefused}
use Rattle.choices.specs.{FlickState}
use Rattle.world.specs.Seats.{Seat}
use Rattle.world.specs.Shows.{Shows, WorldState}
use Rattle.world.specs.Walks.{AddsQuietly, ReportsOverlapped, Walks}

-- the registers and the seat of each process; the size is fixed
pub record CoreState : Type 0 where
  pub setup : Setup
  pub registers : List (List Cell)
  pub seats : List Seat

-- The cores are equal, except for flags `touched` of copies without an open read. So they behave alike.
pub record AreAlikeCores (core other : CoreState) : Type 0 where
  pub setup : core.setup ≡ other.setup
  pub registers : AreAlikeMemories core.registers other.registers
  pub seats : core.seats ≡ other.seats

-- the world that has this core and this history
abbrev pub with_history : CoreState → List Taken → WorldState
with_history c taken = record { setup = c.setup; registers = c.registers; seats = c.seats; history = taken }

-- the invariant of a core: with some history it shows some events
pub record KeepsCore (c : CoreState) : Type 0 where
  pub taken : List Taken
  pub events : List Event
  pub shows : Shows (with_history c taken) events

-- P holds in the past of each record that the core shows with any history
abbrev pub InEachCorePast : CoreState → (Setup → Past → Type 0) → Type 0
InEachCorePast c P = (taken : List Taken) → InEachPast (with_history c taken) P

-- with each history, an event is refused for this reason, or is not refused
abbrev pub CoreRefuses : CoreState → Event → Option Refusal → Type 0
CoreRefuses c event refusal = (taken : List Taken) → IsRefused (with_history c taken) event refusal

abbrev pub CoreRefusesStep : CoreState → ℕ → Bool → Refusal → Type 0
CoreRefusesStep c p flick refusal = CoreRefuses c (Step p flick) (Some refusal)

abbrev pub CoreTurnsAway : CoreState → Event → Refusal → Type 0
CoreTurnsAway c event refusal = (taken : List Taken) → IsTurnedAway (with_history c taken) event refusal

abbrev pub UnlessCoreRefuses : CoreState → Event → Type 0 → Type 0
UnlessCoreRefuses c event P = (taken : List Taken) → UnlessRefused (with_history c taken) event P

-- the command and the number of the last call of a process, by its seat
abbrev pub call_in : List Seat → ℕ → Command × ℕ
call_in seats p = elim (slice_get seats p) as (λ _. Command × ℕ) [ None ↦ (Ask, 0) | Some seat ↦ (seat.process.command, seat.process.number) ]

-- the entry of the history for the last call of a process, with this reply
abbrev pub taken_by : List Seat → ℕ → Reply → Taken
taken_by seats p reply = record { process = p; command = (call_in seats p).0; reply = reply; number = (call_in seats p).1 }

-- the history, extended by the command of a process if it takes one
abbrev pub history_with : List Taken → CoreState → ℕ → Option Reply → List Taken
history_with taken c p reply = with_taken taken p (call_in c.seats p).0 (call_in c.seats p).1 reply

-- with each history, an event adds the entry with this effect and this access; below, a step does
abbrev pub CoreAdds : CoreState → Event → EventOutcome → Option Access → Type 0
CoreAdds c event effect access = (taken : List Taken) → AddsEvent (with_history c taken) event effect access

abbrev pub CoreAddsStep : CoreState → ℕ → Bool → StepOutcome → Access → Type 0
CoreAddsStep c p flick reported access = CoreAdds c (Step p flick) (Steps reported) (Some access)

-- with each history, a step adds the entry with this access and without a mark
abbrev pub CoreAddsQuietly : CoreState → ℕ → Bool → Access → Type 0
CoreAddsQuietly c p flick access = (taken : List Taken) → AddsQuietly (with_history c taken) p flick access

-- with each history, whether the access would end a read that a write overlapped
abbrev pub CoreReportsOverlapped : CoreState → Access → Bool → Type 0
CoreReportsOverlapped c access overlapped = (taken : List Taken) → ReportsOverlapped (with_history c taken) access overlapped

-- with each history, if an event reports a number of changes, this many were taken before it; below, a step reports it
abbrev pub CoreEventReportsChanges : CoreState → EventOutcome → Type 0
CoreEventReportsChanges c effect = (taken : List Taken) → EventReportsChanges (with_history c taken) effect

abbrev pub CoreReportsChanges : CoreState → StepOutcome → Type 0
CoreReportsChanges c reported = CoreEventReportsChanges c (Steps reported)

-- the process of the event exists, and the new core with the extended history shows the event too
pub record CoreMakes (old : CoreState) (event : Event) (effect : EventOutcome) (new : CoreState) : Type 0 where
  pub there : process_of event < length new.seats
  pub goes : (taken : List Taken) → GoesOn (with_history old taken) event (with_history new (history_with taken new (process_of event) (reply_taken (marks_of effect))))

-- a step makes this core of the old one
abbrev pub CoreSteps : CoreState → ℕ → Bool → StepOutcome → CoreState → Type 0
CoreSteps old p flick reported new = CoreMakes old (Step p flick) (Steps reported) new

-- 1 if an event takes a command
abbrev pub taking : EventOutcome → ℕ
taking effect = elim (reply_taken (marks_of effect)) as (λ _. ℕ) [ None ↦ 0 | Some r ↦ 1 ]

-- the number of pending calls, with the one that is taken
abbrev pub pending_with : EventOutcome → CoreState → ℕ
pending_with effect c = pending_in c.seats + taking effect

-- these calls were pending before
abbrev pub PendedBefore : CoreState → EventOutcome → CoreState → Type 0
PendedBefore old effect new = pending_with effect new ≤ pending_in old.seats

-- these calls were pending before, unless the event is a call
abbrev pub PendedUnlessCall : Event → CoreState → EventOutcome → CoreState → Type 0
PendedUnlessCall event old effect new = is_call event ≡ false → PendedBefore old effect new

-- before a call, the history has room for one command of each process
abbrev pub MakesRoomForCall : Event → CoreState → Vec Taken → Vec Taken → Type 0
MakesRoomForCall event c old new = is_call event ≡ true → length old.items + length c.seats ≤ vec_capacity new

-- the history has room for the command that is taken, if one is taken
abbrev pub HasRoomToTake : Option Reply → Vec Taken → Type 0
HasRoomToTake reply history = (r : Reply) → reply ≡ Some r → vec_len history < vec_capacity history

-- with each history, an existing process makes n steps without a mark; the number of pending calls does not increase
pub record CoreWalks (old : CoreState) (flicks : FlickState) (p n : ℕ) (newest : Access) (overlapped : ℕ) (new : CoreState) (flicks_then : FlickState) : Type 0 where
  pub there : p < length new.seats
  pub walks : (taken : List Taken) → Walks (with_history old taken) flicks p n newest overlapped (with_history new taken) flicks_then
  pub pending : pending_in new.seats ≤ pending_in old.seats
