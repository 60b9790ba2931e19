-- The parts of a world that an event changes, apart from the process whose event it is.
use Rattle.std.specs.Prelude.{ℕ, ◌+◌, [], ◌∷◌, ◌++◌, Bool, true, false, not, cond, List, map, Option, None, Some, is_some, slice_get, slice_set}
use Rattle.std.specs.List.{range_with_len}
use Rattle.plain_store.specs.{Command, Reply}
use Rattle.model.specs.{Clears, Over, Part, Settles, Taken}
use Rattle.laws.specs.{Doing, Runs, Closes}
use Rattle.world.specs.Seats.{Seat, is_waiting}

-- the processes ahead of a process after an event of p; waited, waits: p waited before it, waits after it; begun: the doorway of the process has begun
abbrev pub before_reported : (p : ℕ) (waited waits begun : Bool) → List Bool → List Bool
before_reported p true true begun before = before
before_reported p true false begun before = slice_set before p false
before_reported p false true begun before = slice_set before p (not begun)
before_reported p false false begun before = before

-- the seat of a process, updated after an event of p
abbrev pub reported : (p : ℕ) (waited waits : Bool) → Seat → Seat
reported p waited waits seat = record seat { before = before_reported p waited waits seat.begun seat.before }

-- a call at this part may still be taken
abbrev pub is_open_part : Part → Bool
is_open_part (Clears answer) = false
is_open_part Over = false
is_open_part _ = true

-- the call of a process may still be taken
abbrev pub is_pending : Doing → Bool
is_pending (Runs command number at) = is_open_part at.part
is_pending (Closes command number (Settles field bit begun taken inside torn)) = is_some taken
is_pending _ = false

abbrev pub pending : Seat → ℕ
pending seat = cond (is_pending seat.process.doing) 1 0

-- the number of calls that may still be taken
abbrev pub pending_in : List Seat → ℕ
pending_in [] = 0
pending_in (seat ∷ seats) = pending seat + pending_in seats

-- the process j waits, as its seat shows
abbrev pub waits_in : List Seat → ℕ → Bool
waits_in seats j = elim (slice_get seats j) [ None ↦ false | Some seat ↦ is_waiting seat ]

-- for each of 16 processes, whether it waits
abbrev pub waiting_in : List Seat → List Bool
waiting_in seats = map (waits_in seats) (range_with_len 0 16)

-- the history, extended by the command of p if it is taken
abbrev pub with_taken : List Taken → ℕ → Command → ℕ → Option Reply → List Taken
with_taken taken p command number None = taken
with_taken taken p command number (Some r) = taken ++ record { process = p; command = command; reply = r; number = number } ∷ []
