-- Many accesses at once: the effect of begin and end on a bit, and on bits side by side.
use Rattle.std.specs.Prelude.{◌≡◌, ℕ, zero, suc, ◌+◌, ◌<◌, Bool, true, false, List, slice_set}
use Rattle.safe_bit.specs.Cell.{Cell}
use Rattle.reader_copies.specs.Row.{cell_in}

-- a bit after begin and end of a read
abbrev pub after_read : Cell → Cell
after_read c = record { value = c.value; writing = c.writing; reading = false; touched = c.writing }

-- a bit after begin and end of a write
abbrev pub after_write : Bool → Cell → Cell
after_write v c = record { value = v; writing = false; reading = c.reading; touched = true }

-- n bits from one on, each changed
abbrev pub over : ℕ → (ℕ → Cell → Cell) → ℕ → List Cell → List Cell
over zero f from cells = cells
over (suc n) f from cells = slice_set (over n f from cells) (from + n) (f (from + n) (cell_in (over n f from cells) (from + n)))

-- A write of one of n copies from one on is open.
abbrev pub IsWrittenAmong : List Cell → (from n : ℕ) → Type 0
IsWrittenAmong cells from n = (j : ℕ) × (j < n) × ((cell_in cells (from + j)).writing ≡ true)

-- No write of any of them is open.
abbrev pub AreClosedAmong : List Cell → (from n : ℕ) → Type 0
AreClosedAmong cells from n = (j : ℕ) → j < n → (cell_in cells (from + j)).writing ≡ false
