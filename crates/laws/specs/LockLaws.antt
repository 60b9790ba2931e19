-- The laws of the lock that are not among the main theorems of `record`. They hold of the record of every list of events.
use Rattle.std.specs.Prelude.{◌≡◌, ◌↔◌, ℕ, ◌<◌, Bool, true, false, List, [], length, None, Some, Ok, IsTrue, IsFalse, Contains, AllPairs}
use Rattle.model.specs.safe_bit.declared.Move.TheVariants.{EndRead}
use Rattle.model.specs.safe_bit.{MayEndWith, read_value}
use Rattle.model.specs.reader_copies.{IsWrite}
use Rattle.model.specs.{Access, EachEntry, EachPast, Entry, Event, Mark, Past, ahead, doorway_begin, doorway_end, entry_of, has, inside, is_before, is_entered, is_failed, is_at_door, is_version, lowest_full, max_of, moves_of, opening_bit, others, own, past_of, since, stage, tickets_read}
use Rattle.plain_store.specs.declared.Answer.TheVariants as answer
use Rattle.plain_store.specs.{Setup, checked}
use Rattle.model.specs.declared.events.Event.TheVariants.{Step}
use Rattle.model.specs.declared.marks.Mark.TheVariants.{Waiting, Taken, Answered}
use Rattle.model.specs.declared.stages.Stage.TheVariants as stages

-- Full answers.

-- with these marks a doorway ends that was not cut: with a ticket, or with `TicketsFull`
abbrev pub ends_doorway : Mark → Bool
ends_doorway (Waiting t) = true
ends_doorway (Answered (answer.TicketsFull j)) = true
ends_doorway _ = false

-- A doorway that ends has read one ticket of each other process.
abbrev pub EachTicketIsRead : Type 0
EachTicketIsRead = EachEntry λ s past e. IsTrue (has ends_doorway e) → length (tickets_read s e.process past) ≡ length (others s e.process)

-- It ends with `TicketsFull` exactly if one of its reads gave the greatest ticket, and names the lowest process with such a read.
abbrev pub TicketsFullExactly : Type 0
TicketsFullExactly = EachEntry λ s past e. IsTrue (has ends_doorway e) → (j : ℕ) →
    Contains e.marks (Answered (answer.TicketsFull j)) ↔ (lowest_full (max_of s.ticket_bits) (others s e.process) (tickets_read s e.process past) ≡ Some j)

-- Ahead.

-- j waits, and its doorway was finished before that of p began, or that of p has not begun
abbrev pub WaitsBefore : Setup → Past → ℕ → ℕ → Type 0
WaitsBefore s past p j = (j < s.processes) × (stage j past ≡ stages.Waiting) × IsTrue (is_before (doorway_end j past) (doorway_begin p past))

-- The list `ahead` of a process that is in its doorway or waits has exactly the processes that wait before it.
abbrev pub AheadAreThoseBefore : Type 0
AheadAreThoseBefore = EachPast λ s past. (p : ℕ) → IsTrue (is_at_door (stage p past)) → (j : ℕ) → Contains (ahead s p past) j ↔ WaitsBefore s past p j

-- It ascends.
abbrev pub AheadAscends : Type 0
AheadAscends = EachPast λ s past. (p : ℕ) → AllPairs (λ i j. i < j) (ahead s p past)

-- It is empty of a process that is neither in its doorway nor waits.
abbrev pub AheadIsOfTheQueued : Type 0
AheadIsOfTheQueued = EachPast λ s past. (p : ℕ) → IsFalse (is_at_door (stage p past)) → ahead s p past ≡ []

-- No process is ahead of itself.
abbrev pub NobodyIsAheadOfItself : Type 0
NobodyIsAheadOfItself = EachPast λ s past. (p : ℕ) → Contains (ahead s p past) p → ⊥

-- All that wait are ahead of a call whose doorway has not begun.
abbrev pub WaitersAreAheadOfACall : Type 0
WaitersAreAheadOfACall = EachPast λ s past. (p : ℕ) → stage p past ≡ stages.Doorway → doorway_begin p past ≡ None → (j : ℕ) → Contains (ahead s p past) j ↔ (stage j past ≡ stages.Waiting)

-- No process is ahead of a process that enters.
abbrev pub NobodyIsAheadOfWhoEnters : Type 0
NobodyIsAheadOfWhoEnters = EachEntry λ s past e. IsTrue (has is_entered e) → ahead s e.process past ≡ []

-- The safe rule.

-- A read that no write overlaps ends with the value last written or settled before it began.
abbrev pub ReadsEndAsTheyMay : Type 0
ReadsEndAsTheyMay = EachEntry λ s past e. (a : Access) (v : Bool) → e.access ≡ Some a → a.how ≡ EndRead v → MayEndWith (opening_bit s a) (moves_of a past) v

-- An overlapped read ends with the flick of the event that ends it.
abbrev pub ReadsEndByTheirFlick : Type 0
ReadsEndByTheirFlick = (s : Setup) → checked s ≡ Ok tt → (events : List Event) (p : ℕ) (flick : Bool) (e : Entry) → entry_of s (past_of s events) (Step p flick) ≡ Some e →
    (a : Access) (v : Bool) → e.access ≡ Some a → a.how ≡ EndRead v → v ≡ read_value (opening_bit s a) (moves_of a (past_of s events)) flick

-- Alone inside.

-- While a process that is inside makes an entry, itself or by its memory unit, no other process is inside.
abbrev pub AloneInside : Type 0
AloneInside = EachEntry λ s past e. IsTrue (inside e.process past) → (j : ℕ) → IsTrue (inside j past) → j ≡ e.process

-- Registers of versions are read and written by a process that is inside, or by its memory unit, alone.
abbrev pub VersionsAreTouchedInside : Type 0
VersionsAreTouchedInside = EachEntry λ s past e. (a : Access) → e.access ≡ Some a → IsTrue (is_version a.field) →
    IsTrue (inside e.process past) × ((j : ℕ) → IsTrue (inside j past) → j ≡ e.process)

-- Each is written by its owner alone.
abbrev pub VersionsAreWrittenByTheirOwner : Type 0
VersionsAreWrittenByTheirOwner = EachEntry λ s past e. (a : Access) → e.access ≡ Some a → IsTrue (is_version a.field) → IsWrite a.how → a.owner ≡ e.process

-- the command is taken
abbrev pub is_taken : Mark → Bool
is_taken (Taken k r) = true
is_taken _ = false

-- Commands are taken by a process that is inside, or by its memory unit, alone.
abbrev pub TakenInside : Type 0
TakenInside = EachEntry λ s past e. IsTrue (has is_taken e) → IsTrue (inside e.process past) × ((j : ℕ) → IsTrue (inside j past) → j ≡ e.process)

-- Memory units.

-- The memory unit of a failed process makes 1,088 accesses at most: while it is at work, fewer were made since the failure.
abbrev pub UnitsAreShort : Type 0
UnitsAreShort = EachPast λ s past. (p : ℕ) → stage p past ≡ stages.Settling → length (since is_failed (own p past)) < 1088
