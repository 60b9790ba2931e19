-- Writes in their turn: the copies that a process or its memory unit has open for writing, by its place.
use Rattle.std.specs.Prelude.{◌≡◌, ℕ, ◌%◌, ◌==◌, nat_le, Bool, true, false, ◌&&◌, cond, List, [], ◌∷◌}
use Rattle.safe_bit.specs.Cell.{Cell, cell_after, MayWrite}
use Rattle.safe_bit.specs.{Move}
use Rattle.reader_copies.specs.Runs as copies
use Rattle.model.specs.declared.access.Access.{Access}
use Rattle.model.specs.declared.access.Field.{Field}
use Rattle.model.specs.declared.access.Field.TheVariants.{Choosing, Ticket}
use Rattle.model.specs.Accesses.{access_of}
use Rattle.safe_number.specs.{NumberWrite}
use Rattle.model.specs.Closings.{Closing, Withdraws, Settles, Frees, Lowers, Quit, Ended, no_ticket}
use Rattle.model.specs.Moves.{field_number, same_bit}
use Rattle.model.specs.Parts.{Part, written_at}
use Rattle.model.specs.Places.{Run, Writing, Reading, Place, bit_written, next_written}
use Rattle.model.specs.Scripts.{Call}

-- a bit, reduced to its writes
abbrev pub open_cell : Bool → Cell
open_cell was = record { value = false; writing = was; reading = false; touched = false }

-- a move on a bit is in its turn; `was` means that a write of the bit was open
abbrev pub Turn : Bool → Move → Type 0
Turn was move = MayWrite (open_cell was) move

-- the write of a bit is open after a move; `is_on` means that the move is on this bit
abbrev pub open_after : Bool → Bool → Move → Bool
open_after was is_on move = cond is_on (cell_after (open_cell was) move).writing was

-- an access in its turn leads from the copies that were open to those that are open after it
pub record Leads (was : Access → Bool) (x : Access) (then : Access → Bool) : Type 0 where
  pub turn : (a : Access) → same_bit a x ≡ true → Turn (was a) x.how
  pub after : (a : Access) → then a ≡ open_after (was a) (same_bit a x) x.how

-- the copy that a write has open: where an odd number of its bit's accesses was made, that of the next one
abbrev pub open_written : ℕ → Field → List Bool → NumberWrite → Access → Bool
open_written p f bits w a = same_bit a (access_of p f (next_written bits w)) && ((bit_written bits w).made % 2 == 1)

-- the copies of a bit that its settling has open: the one that it writes now, and the one that was open before, until it comes to it
abbrev pub open_copy : copies.Settling → ℕ → Bool
open_copy t r = cond ((r == t.reader) && t.begun) true (nat_le t.reader r && copies.is_open_at t.made r)

-- the copies of a bit of a register of p that its settling has open
abbrev pub open_settled : ℕ → Field → ℕ → copies.Settling → Access → Bool
open_settled p f bit t a = ((a.bit == bit) && (a.owner == p) && (field_number a.field == field_number f)) && open_copy t a.reader

-- the copy that a number access has open for writing
abbrev pub open_run : Call → Part → Run → Access → Bool
open_run c part (Writing w) a = open_written c.process (written_at c part).0 (written_at c part).1 w a
open_run c part (Reading bits begun) a = false

-- the copy that is open at a place
abbrev pub open_place : Call → Place → Access → Bool
open_place c at a = open_run c at.part at.run a

-- the copies that a withdrawal or a memory unit has open
abbrev pub open_closing : Call → Closing → Access → Bool
open_closing c (Withdraws w) a = open_written c.process Ticket (no_ticket c) w a
open_closing c (Settles field bit begun taken is t) a = open_settled c.process field bit t a
open_closing c (Frees is w) a = open_written c.process Ticket (no_ticket c) w a
open_closing c (Lowers w) a = open_written c.process Choosing (false ∷ []) w a
open_closing c Quit a = false
open_closing c Ended a = false
