-- Consistency of the calls of a process with a list of changes: each taken call agrees with the store at its position, and the positions are in order.
use Rattle.std.specs.Prelude.{◌≡◌, ℕ, ◌+◌, ◌<◌, ◌≤◌, ◌==◌, true, cond, List, length, take, slice_get, Option, None, Some}
use Rattle.plain_store.specs.{Answer, Caller, Command, Contents, Reply, Setup, changes, reply_to}
use Rattle.plain_store.specs.declared.Answer.TheVariants as answer
use Rattle.model.specs.{AreGiven, Event, Placed, Taken, past_of, store_after}
use Rattle.board.specs.Calls.{IsPrefix, and_then, changes_of}
use Rattle.board.specs.Views.{ViewState}

-- the caller of call k of process p, counted from 0: its number is k + 1 in version 2, and 0 in version 1
abbrev pub caller_of : Setup → ℕ → ℕ → Caller
caller_of s p k = record { process = p; number = cond (s.version == 2) (k + 1) 0 }

-- the store at a position of a list of changes: the opening store after the first `place` changes
abbrev pub store_at : Setup → List Taken → ℕ → Contents
store_at s list place = store_after s (take place list)

-- the change that a command makes at a position
abbrev pub change_at : Setup → List Taken → Caller → Command → ℕ → Taken
change_at s list caller command place = record { process = caller.process; command = command; reply = reply_to (store_at s list place) command caller; number = caller.number }

-- a call that was taken at this position: the store at the position gives the reply, if the call has a reply; if its command changes that store, it is the change at the position
pub record FitsAt (s : Setup) (list : List Taken) (caller : Caller) (call : Placed) (place : ℕ) : Type 0 where
  pub within : place ≤ length list
  pub reply : (r : Reply) → call.answer ≡ Some (answer.Reply r) → r ≡ reply_to (store_at s list place) call.command caller
  pub change : changes (store_at s list place) call.command ≡ true → slice_get list place ≡ Some (change_at s list caller call.command place)

-- a call answered with a reply of the store has a position, and a call answered otherwise has none; a call that was cut or is unfinished may have one
abbrev pub PlacedAsAnswered : Option Answer → Option ℕ → Type 0
PlacedAsAnswered None place = Unit {0}
PlacedAsAnswered (Some (answer.Reply r)) place = (k : ℕ) × (place ≡ Some k)
PlacedAsAnswered (Some _) place = place ≡ None

-- the number of changes after a command was taken at this position
abbrev pub place_after : Setup → List Taken → Command → ℕ → ℕ
place_after s list command place = cond (changes (store_at s list place) command) (place + 1) place

-- The calls of process p are consistent with a list of changes.
pub record FitsChanges (s : Setup) (p : ℕ) (calls : List Placed) (list : List Taken) : Type 0 where
  pub taken : (k place : ℕ) (call : Placed) → slice_get calls k ≡ Some call → call.place ≡ Some place → FitsAt s list (caller_of s p k) call place  -- each taken call agrees with the list at its position
  pub answered : (k : ℕ) (call : Placed) → slice_get calls k ≡ Some call → PlacedAsAnswered call.answer call.place  -- each call answered with a reply was taken
  pub order : (j k place next : ℕ) (call later : Placed) → j < k → slice_get calls j ≡ Some call → slice_get calls k ≡ Some later → call.place ≡ Some place → later.place ≡ Some next →
      place_after s list call.command place ≤ next  -- positions never fall, and after a change they are above its position

-- These are the first changes of the record of some events.
pub record AreFirstChanges (s : Setup) (list : List Taken) : Type 0 where
  pub events : List Event
  pub given : AreGiven s events
  pub first : IsPrefix list (changes_of s (past_of s events))

-- The calls of process p are consistent with these changes, which are the first changes of a record.
pub record AreInFirst (s : Setup) (p : ℕ) (calls : List Placed) (list : List Taken) : Type 0 where
  pub fits : FitsChanges s p calls list
  pub seen : AreFirstChanges s list

-- The calls that a view knows are consistent with the changes that it has seen.
abbrev pub AreInSeen : Setup → ViewState → Type 0
AreInSeen s v = AreInFirst s v.own.process (and_then v.own.calls.done v.own.calls.now) v.seen
