-- The next step of a process: its next access, the state after it, and the work that a failure leaves to its memory unit.
use Rattle.std.specs.Prelude.{◌≡◌, ℕ, Bool, false, cond, List, [], ◌∷◌, Option, None, Some, option_map, unwrap_or}
use Rattle.model.specs.{Access, Field, Mark, Next, Reading, Writing, access_at, bit_written, cut_at, cut_closing, is_over, is_read, marks_of, place_after, place_of, read_at, written_at}
use Rattle.plain_store.specs.{Command, Setup}
use Rattle.plain_store.specs.declared.Command.TheVariants.{Ask}
use Rattle.model.specs.Closings.{Closing, Withdraws, Settles, Frees, Lowers, Quit, Ended, freeing, closing_next, closing_after, no_ticket}
use Rattle.laws.specs.Doings.{Doing, Rests, Lies, Runs, Closes, call, runs, closes, is_inside}

-- the next access in a state, where the value of a read's end is open; none if the process rests, or is down
abbrev pub next_of : Setup → ℕ → Doing → Bool → Option Access
next_of s p Rests flick = None
next_of s p Lies flick = None
next_of s p (Runs command number at) flick = Some (access_at (call s p command number) at.part at.run)
next_of s p (Closes command number at) flick = option_map (λ (n : Next). n.access) (closing_next (call s p command number) at flick)

-- the marks of the access, if it has this value; the place of a command that is taken is open here, and written as 0
abbrev pub marks_with : Setup → ℕ → Doing → (flick value : Bool) → List Mark
marks_with s p Rests flick value = []
marks_with s p Lies flick value = []
marks_with s p (Runs command number at) flick value = marks_of (call s p command number) at value
marks_with s p (Closes command number at) flick value = elim (closing_next (call s p command number) at flick) [ None ↦ [] | Some n ↦ n.marks ]

-- the state after the access
abbrev pub does_then : Setup → ℕ → Doing → (flick value : Bool) → Doing
does_then s p Rests flick value = Rests
does_then s p Lies flick value = Lies
does_then s p (Runs command number at) flick value = runs command number (place_after (call s p command number) at value)
does_then s p (Closes command number at) flick value = closes command number (closing_after (call s p command number) at flick)

-- the register that it reads, and whose it is; none, if it reads none
abbrev pub reads_of : Setup → ℕ → Doing → Option (ℕ × Field)
reads_of s p (Runs command number at) = cond (is_read at.part) (Some (read_at (call s p command number) at.part)) None
reads_of s p _ = None

-- the value that is being written to the bit of the next access
abbrev pub being_written : Setup → ℕ → Doing → Bool
being_written s p Rests = false
being_written s p Lies = false
being_written s p (Runs command number at) = elim at.run [ Writing w ↦ (bit_written (written_at (call s p command number) at.part).1 w).value | Reading bits begun ↦ false ]
being_written s p (Closes command number (Withdraws w)) = (bit_written (no_ticket (call s p command number)) w).value
being_written s p (Closes command number (Settles field bit begun taken is t)) = unwrap_or t.value false
being_written s p (Closes command number (Frees is w)) = (bit_written (no_ticket (call s p command number)) w).value
being_written s p (Closes command number (Lowers w)) = (bit_written (false ∷ []) w).value
being_written s p (Closes command number Quit) = false
being_written s p (Closes command number Ended) = false

-- a place that a call reaches
abbrev pub IsReached : Setup → ℕ → Doing → Type 0
IsReached s p (Runs command number at) = (accesses : List Access) × (at ≡ place_of (call s p command number) accesses)
IsReached s p _ = Unit {0}

-- the stored command and number are those of its call
abbrev pub IsCallOf : Command → ℕ → Doing → Type 0
IsCallOf command number (Runs called its at) = (command ≡ called) × (number ≡ its)
IsCallOf command number _ = Unit {0}

-- a call that runs has not ended
abbrev pub IsLive : Doing → Type 0
IsLive (Runs command number at) = is_over at.part ≡ false
IsLive _ = Unit {0}

-- the memory unit of a process that fails in this state
abbrev pub cut_of : Setup → ℕ → Doing → Closing
cut_of s p Rests = freeing (call s p Ask 0) false
cut_of s p Lies = freeing (call s p Ask 0) false
cut_of s p (Runs command number at) = cut_at (call s p command number) at (is_inside (Runs command number at))
cut_of s p (Closes command number at) = cut_closing (call s p command number) at (is_inside (Closes command number at))
