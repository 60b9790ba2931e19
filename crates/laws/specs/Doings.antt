-- The state of each process, from its entries: it rests, it lies down, it is at a place of its call, or at a place of a closing.
use Rattle.std.specs.Prelude.{ℕ, Bool, true, false, ◌==◌, ◌&&◌, cond, [], ◌∷◌, Option, None, Some}
use Rattle.model.specs.{Access, Asks, AsksCommit, AsksImage, AsksStamp, Call, Clears, Entry, Mark, Over, Part, Past, Place, Raises, Refuses, TakesTicket, Waits, WritesCommit, WritesImage, WritesStamp, call_number, enter, is_fresh, is_over, last_call, last_command, own, place_after, start_in, value_of, value_written}
use Rattle.plain_store.specs.{Command, Setup}
use Rattle.model.specs.declared.marks.Mark.TheVariants.{Called, Failed, Withdrew}
use Rattle.model.specs.Closings.{Closing, Withdraws, Settles, Frees, Lowers, Quit, Ended, withdrawing, failing, closing_after, is_unwritten}
use Rattle.model.specs.Parts as part

-- a call of p
abbrev pub call : Setup → ℕ → Command → ℕ → Call
call s p command number = record { setup = s; process = p; command = command; number = number }

-- the state of a process
pub data Doing : Type 0 where
  Rests : Doing
  Lies : Doing  -- it is down
  Runs : (command : Command) (number : ℕ) → Place → Doing
  Closes : (command : Command) (number : ℕ) → Closing → Doing

-- a place of a call; a call that is over is at rest
abbrev pub runs : Command → ℕ → Place → Doing
runs command number at = cond (is_over at.part) Rests (Runs command number at)

-- a place of a closing, until its end
abbrev pub closes : Command → ℕ → Closing → Doing
closes command number (Withdraws w) = Closes command number (Withdraws w)
closes command number (Settles f bit begun taken is t) = Closes command number (Settles f bit begun taken is t)
closes command number (Frees is w) = Closes command number (Frees is w)
closes command number (Lowers w) = Closes command number (Lowers w)
closes command number Quit = Rests
closes command number Ended = Lies

-- the state after an access; an entry without an access that begins nothing is a restart
abbrev pub goes_on : Setup → ℕ → Entry → Option Access → Doing → Doing
goes_on s p e None d = Rests
goes_on s p e (Some a) Rests = Rests
goes_on s p e (Some a) Lies = Lies
goes_on s p e (Some a) (Runs command number at) = runs command number (place_after (call s p command number) at (value_of a.how))
goes_on s p e (Some a) (Closes command number at) = closes command number (closing_after (call s p command number) at (value_written e))

-- the state of p after an entry of its own; mine has its own entries before
abbrev pub does_after : Setup → ℕ → Past → Entry → Option Mark → Doing → Doing
does_after s p mine e (Some (Called command)) d = Runs command (call_number s (e ∷ mine)) (enter (call s p command (call_number s (e ∷ mine))) Raises)
does_after s p mine e (Some Withdrew) d = Closes (last_command mine) (call_number s mine) (withdrawing (last_call s p mine))
does_after s p mine e (Some Failed) d = Closes (last_command mine) (call_number s mine) (failing (last_call s p mine) mine)
does_after s p mine e _ d = goes_on s p e e.access d

-- the state of p after a past
abbrev pub doing : Setup → ℕ → Past → Doing
doing s p [] = Rests
doing s p (e ∷ past) = cond (e.process == p) (does_after s p (own p past) e (start_in e.marks) (doing s p past)) (doing s p past)

-- p is inside at a part; fresh: nothing of it was made
abbrev pub is_inside_at : Part → Bool → Bool
is_inside_at Raises fresh = false
is_inside_at (Asks j js ts) fresh = false
is_inside_at (TakesTicket t) fresh = false
is_inside_at (part.Lowers t) fresh = false
is_inside_at (Refuses f) fresh = false
is_inside_at (Waits t w ws) fresh = false
is_inside_at (AsksCommit k ks vs) fresh = true
is_inside_at (AsksStamp k ks vs b) fresh = true
is_inside_at (AsksImage vs) fresh = true
is_inside_at (WritesImage vs st) fresh = true
is_inside_at (WritesStamp vs st) fresh = true
is_inside_at (WritesCommit vs st) fresh = true
is_inside_at (Clears a) fresh = fresh
is_inside_at Over fresh = false

-- p is inside, in a closing
abbrev pub is_inside_closing : Closing → Bool
is_inside_closing (Withdraws w) = false
is_inside_closing (Settles f bit begun taken is t) = is
is_inside_closing (Frees is w) = is && is_unwritten w
is_inside_closing (Lowers w) = false
is_inside_closing Quit = false
is_inside_closing Ended = false

-- p is inside
abbrev pub is_inside : Doing → Bool
is_inside Rests = false
is_inside Lies = false
is_inside (Runs command number at) = is_inside_at at.part (is_fresh at.run)
is_inside (Closes command number at) = is_inside_closing at
