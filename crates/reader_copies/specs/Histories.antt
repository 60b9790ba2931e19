-- The calls on a row, the newest first, and those of them that went to one copy.
use Rattle.std.specs.Prelude.{ℕ, ◌==◌, ◌&&◌, List, [], ◌∷◌, if◌then◌else◌}
use Rattle.safe_bit.specs.Cell.{Cell, without_read, BitCall, Makes, Drops}
use Rattle.reader_copies.specs.declared.runs.Made.{Made}
use Rattle.reader_copies.specs.Row.{cell_at, with_cell, row_after, HasCell}
use Rattle.reader_copies.specs.Written.{IsRead}

-- an access to a bit, or the dropping of a reader's open read of it
pub data RowCall : Type 0 where
  MakesAt : ℕ → Made → RowCall
  DropsAt : ℕ → ℕ → RowCall

-- the row after one call
abbrev pub row_after_call : List (List Cell) → RowCall → List (List Cell)
row_after_call row (MakesAt bit made) = row_after row bit made
row_after_call row (DropsAt bit reader) = with_cell row bit reader (without_read (cell_at row bit reader))

-- the row after these calls
abbrev pub row_of : List (List Cell) → List RowCall → List (List Cell)
row_of row [] = row
row_of row (call ∷ calls) = row_after_call (row_of row calls) call

-- the call is on a copy that exists, and begins, ends or drops a read of it
abbrev pub IsReadCall : List (List Cell) → RowCall → Type 0
IsReadCall row (MakesAt bit made) = HasCell row bit made.reader × IsRead made.how
IsReadCall row (DropsAt bit reader) = HasCell row bit reader

-- the calls that went to one reader's copy of one bit
abbrev pub calls_at : ℕ → ℕ → List RowCall → List BitCall
calls_at bit reader [] = []
calls_at bit reader (MakesAt b made ∷ calls) = if bit == b && reader == made.reader then Makes made.how ∷ calls_at bit reader calls else calls_at bit reader calls
calls_at bit reader (DropsAt b r ∷ calls) = if bit == b && reader == r then Drops ∷ calls_at bit reader calls else calls_at bit reader calls
