-- The model of a port, as its callers see it, and the invariant of its fields.
use Rattle.std.specs.Prelude.{◌≡◌, ◌⊎◌, ℕ, Bool, false, List, [], ◌∷◌, Option, Result, Ok, Err, None, Some}
use Rattle.atomic_table.specs.Seated.{TableId}
use Rattle.model.specs.{Access, Ended, Event, Placed, Quit, Refusal, is_over}
use Rattle.plain_store.specs.{Command, Setup}
use Rattle.model.specs.declared.events.Event.TheVariants.{Call}
use Rattle.model.specs.declared.refusals.Refusal.TheVariants.{Memory}
use Rattle.laws.specs.{Closes, Doing, Runs, next_of}
use Rattle.process.specs.{ProcessState}
use Rattle.board.specs.declared.pending.Pending.{Pending}
use Rattle.board.specs.Calls.{Calls}
use Rattle.board.specs.Listing.{KnowsPlace}
use Rattle.board.specs.Lists.{FitsChanges, AreInSeen}
use Rattle.board.specs.Pending.{events_of}
use Rattle.board.specs.Views.{MayAllHappen, ViewState, at_events, process_at, refusal_in}
use Rattle.board.specs.Words.{word_of}
use Rattle.board.specs.WordSteps.{IsBetween}

-- the board of a port, its seat, its setup, and its view after the events since its last word step
pub record PortState : Type 0 where
  pub table_id : TableId
  pub id : ℕ
  pub setup : Setup
  pub view : ViewState

-- both are one port: its board, its seat, its setup and its process are unchanged
abbrev pub SamePort : PortState → PortState → Type 0
SamePort old new = (new.table_id ≡ old.table_id) × (new.id ≡ old.id) × (new.setup ≡ old.setup) × (new.view.own.process ≡ old.view.own.process)

-- the result of an event of the port's process other than a step: the refusal, if it is refused
abbrev pub answer_to : PortState → Event → Result (Unit {0}) Refusal
answer_to port event = elim (refusal_in port.setup port.view.own event) [ Some refusal ↦ Err refusal | None ↦ Ok tt ]

-- the result of a call: the refusal; or, for a call that is not refused, success or `Memory`
abbrev pub IsBegun : PortState → Event → Result (Unit {0}) Refusal → Type 0
IsBegun port event answer = (answer ≡ answer_to port event) ⊎ ((answer ≡ Err Memory) × (answer_to port event ≡ Ok tt))

-- the call of a command by its process
abbrev pub call_of : PortState → Command → Event
call_of port command = Call port.view.own.process command

-- the port after an event; a refused event leaves it unchanged
abbrev pub port_after : PortState → Event → PortState
port_after port event = elim (refusal_in port.setup port.view.own event) [ Some refusal ↦ port | None ↦ record port { view = at_events port.setup port.view (event ∷ []) } ]

-- the view of a seat after the pending events
abbrev pub with_pending : Setup → Pending → ViewState → ViewState
with_pending s pending v = at_events s v (events_of v.own.process pending)

-- the call or the closing of the process has not come to its end
abbrev pub IsUnended : Doing → Type 0
IsUnended (Runs command number at) = is_over at.part ≡ false
IsUnended (Closes command number Quit) = ⊥
IsUnended (Closes command number Ended) = ⊥
IsUnended _ = Unit {0}

-- the process of a port is as its seat's view, with the pending events, knows it; no read is open, and an open write is of this value
pub record IsTied (s : Setup) (pending : Pending) (process : ProcessState) (value : Bool) (v : ViewState) : Type 0 where
  pub live : v.spent ≡ false
  pub may : MayAllHappen s v.own (events_of v.own.process pending)
  pub same : process ≡ process_at s (with_pending s pending v).own
  pub unended : IsUnended (with_pending s pending v).own.doing
  pub between : IsBetween s value (with_pending s pending v).own

-- the invariant of a port: the list is that of its view, `stamp` is the position of the command that a memory unit may take, the calls are consistent with the changes seen, and the seat holds nothing
pub record KeepsPort (s : Setup) (pending : Pending) (process : ProcessState) (value : Bool) (list : Calls) (stamp : Option ℕ) (v : ViewState) (held : List (ℕ × Unit {0})) : Type 0 where
  pub tied : IsTied s pending process value v
  pub calls : list ≡ (with_pending s pending v).own.calls
  pub place : KnowsPlace stamp (with_pending s pending v)
  pub fits : AreInSeen s (with_pending s pending v)
  pub none : held ≡ []

-- these calls of its process are consistent with the changes that the port has seen
abbrev pub CallsAreInSeen : PortState → List Placed → Type 0
CallsAreInSeen port calls = FitsChanges port.setup port.view.own.process calls port.view.seen

-- the next access of a process is this one, to this word
pub record IsNext (s : Setup) (process : ProcessState) (flick : Bool) (word : ℕ) (access : Access) : Type 0 where
  pub next : next_of process.setup process.process process.doing flick ≡ Some access
  pub at : word ≡ word_of s access
