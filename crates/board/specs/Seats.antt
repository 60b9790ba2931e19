-- Seats of ports, and the effect of a word step on a seat.
use Rattle.std.specs.Prelude.{◌≡◌, ℕ, Bool, [], Option}
use Rattle.atomic_table.specs.declared.Seat.{Seat}
use Rattle.atomic_table.specs.Seated.{TableId}
use Rattle.atomic_table.specs.Table.{Allows, State}
use Rattle.model.specs.safe_bit.declared.Move.TheVariants.{BeginRead}
use Rattle.model.specs.{Access}
use Rattle.model.specs.reader_copies.{IsWrite}
use Rattle.plain_store.specs.{Setup}
use Rattle.process.specs.{ProcessState, StepOutcome}
use Rattle.board.specs.Agreement.{Agree}
use Rattle.board.specs.declared.pending.Pending.{Pending}
use Rattle.board.specs.Listing.{KnowsPlace, Lists}
use Rattle.board.specs.Pending.{nothing}
use Rattle.board.specs.Ports.{IsNext, IsTied, PortState, with_pending}
use Rattle.board.specs.Views.{ViewState}
use Rattle.board.specs.Words.{stored}
use Rattle.board.specs.WordSteps.{LeadsTo, Loads, Stores, WordStep, value_after}

-- a port's seat at the words: its table, its number, its view, and what it holds
abbrev pub PortSeat : Type 0
PortSeat = Seat (Unit {0}) ViewState

-- a seat at this table with this view, that holds nothing
abbrev pub IsSeated : TableId → ViewState → PortSeat → Type 0
IsSeated table v seat = (seat.table_id ≡ table) × (seat.me ≡ (v, []))

-- both are one seat: its table, its number and what it holds are unchanged
abbrev pub SameSeat : PortSeat → PortSeat → Type 0
SameSeat old new = (new.table_id ≡ old.table_id) × (new.id ≡ old.id) × (new.me.1 ≡ old.me.1)

-- the port of a seat, with nothing pending
abbrev pub port_at : PortSeat → Setup → PortState
port_at seat s = record { table_id = seat.table_id; id = seat.id; setup = s; view = seat.me.0 }

-- the rule of the table allows the seat to load this word, as a load from this view
abbrev pub MayLoad : Setup → TableId → PortSeat → ℕ → Setup → Bool → ViewState → Type 0
MayLoad key table seat word s flick v =
    Allows (λ (t : State (Unit {0}) ViewState). Agree key t.words t.views) table.slots seat.id seat.me word (λ k. k) (λ found after. Loads s flick v found after.0 × (after.1 ≡ seat.me.1))

-- the rule of the table allows the seat to store `new` in this word, as a store from this view
abbrev pub MayStore : Setup → TableId → PortSeat → (word new : ℕ) → Setup → Bool → ViewState → Type 0
MayStore key table seat word new s flick v =
    Allows (λ (t : State (Unit {0}) ViewState). Agree key t.words t.views) table.slots seat.id seat.me word (λ _. new) (λ _ after. Stores s flick v after.0 × (after.1 ≡ seat.me.1))

-- the next access of the process begins a read of this word
abbrev pub ReadsNext : Setup → ProcessState → Bool → ℕ → Type 0
ReadsNext s process flick word = (access : Access) × IsNext s process flick word access × (access.how ≡ BeginRead)

-- the next access of the process, which is tied to its seat, belongs to a write of this word, and stores `new`
abbrev pub WritesNext : Setup → Pending → ProcessState → PortSeat → Bool → (word new : ℕ) → Type 0
WritesNext s pending process seat flick word new =
    (value : Bool) × ((access : Access) × IsTied s pending process value seat.me.0 × IsNext s process flick word access × IsWrite access.how × (new ≡ stored value access.how))

-- a process that is tied to its seat is still tied after a read, with nothing pending
abbrev pub StaysTied : Setup → Pending → (old new : ProcessState) → PortSeat → PortSeat → Type 0
StaysTied s pending old new seat then = (value : Bool) → IsTied s pending old value seat.me.0 → IsTied s nothing new value then.me.0

-- a process that is tied to its seat is still tied after an access of a write; an open write is then of the value that this access begins, if it begins one
abbrev pub WriteTies : Setup → Pending → Bool → (old new : ProcessState) → PortSeat → PortSeat → Type 0
WriteTies s pending flick old new seat then =
    (value : Bool) (word : ℕ) (access : Access) → IsTied s pending old value seat.me.0 → IsNext s old flick word access → IsWrite access.how → IsTied s nothing new (value_after access.how value) then.me.0

-- the view of the seat, with the pending events, makes a word step
abbrev pub SeatSteps : Setup → Pending → Bool → PortSeat → PortSeat → Type 0
SeatSteps s pending flick seat then = WordStep s flick (with_pending s pending seat.me.0) then.me.0

-- that word step has this outcome
abbrev pub SeatLeads : Setup → Pending → StepOutcome → PortSeat → PortSeat → Type 0
SeatLeads s pending reported seat then = LeadsTo s reported (with_pending s pending seat.me.0).own then.me.0.own

-- that word step has this effect on the calls that the view knows, for every stamp that was kept
abbrev pub SeatLists : Setup → Pending → StepOutcome → PortSeat → PortSeat → Type 0
SeatLists s pending reported seat then = (stamp : Option ℕ) → KnowsPlace stamp (with_pending s pending seat.me.0) → Lists stamp reported (with_pending s pending seat.me.0) then.me.0
