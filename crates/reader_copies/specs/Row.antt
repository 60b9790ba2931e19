-- A row of bits, each kept as one copy for each reader: for each reader the list of its copies, bit by bit.
use Rattle.std.specs.Prelude.{◌≡◌, ℕ, ◌<◌, List, [], ◌∷◌, Bool, false, length, map, replicate, slice_index_or, slice_set}
use Rattle.safe_bit.specs.Cell.{Cell, new_cell, cell_after, read_answer, without_read, MayMove}
use Rattle.reader_copies.specs.declared.runs.Made.{Made}

-- the copy of bit k among one reader's copies
abbrev pub cell_in : List Cell → ℕ → Cell
cell_in copies k = slice_index_or copies k (new_cell false)

-- the copy that a reader has of a bit
abbrev pub cell_at : List (List Cell) → ℕ → ℕ → Cell
cell_at row bit reader = cell_in (slice_index_or row reader []) bit

-- the row has this reader and this bit
pub record HasCell (row : List (List Cell)) (bit reader : ℕ) : Type 0 where
  pub reader_in : reader < length row
  pub bit_in : bit < length (slice_index_or row reader [])

-- the row with this copy changed, and no other
abbrev pub with_cell : List (List Cell) → ℕ → ℕ → Cell → List (List Cell)
with_cell row bit reader c = slice_set row reader (slice_set (slice_index_or row reader []) bit c)

-- the row after one access to a bit: that copy goes on by it, and all others stay
abbrev pub row_after : List (List Cell) → ℕ → Made → List (List Cell)
row_after row bit made = with_cell row bit made.reader (cell_after (cell_at row bit made.reader) made.how)

-- the row with a reader's open read of a bit dropped
abbrev pub without_read_at : List (List Cell) → ℕ → ℕ → List (List Cell)
without_read_at row bit reader = with_cell row bit reader (without_read (cell_at row bit reader))

-- the value with which a read of a copy ends
abbrev pub answer_at : List (List Cell) → ℕ → ℕ → Bool → Bool
answer_at row bit reader flick = read_answer (cell_at row bit reader) flick

-- the access may be made
pub record CanMake (row : List (List Cell)) (bit : ℕ) (made : Made) : Type 0 where
  pub there : HasCell row bit made.reader
  pub turn : MayMove (cell_at row bit made.reader) made.how

-- a row of bits that open at 0
abbrev pub new_row : ℕ → ℕ → List (List Cell)
new_row width readers = replicate readers (replicate width (new_cell false))

-- the row with all copies of a bit as if it had opened at v
abbrev pub preset_row : List (List Cell) → ℕ → Bool → List (List Cell)
preset_row row bit v = map (λ copies. slice_set copies bit (new_cell v)) row

-- no access to any copy of the bit is open
abbrev pub IsClosed : Cell → Type 0
IsClosed c = (c.writing ≡ false) × (c.reading ≡ false)

-- no access to a bit is open
abbrev pub IsClosedBit : List (List Cell) → ℕ → Type 0
IsClosedBit row bit = (reader : ℕ) → reader < length row → IsClosed (cell_at row bit reader)

-- one bit that opens at v
abbrev pub new_bit : ℕ → Bool → List (List Cell)
new_bit readers v = replicate readers (new_cell v ∷ [])

-- the row with every open read of a reader dropped
abbrev pub without_reads : List (List Cell) → ℕ → List (List Cell)
without_reads row reader = slice_set row reader (map without_read (slice_index_or row reader []))

-- a row of this width: there is a reader, and each reader has a copy of each bit
pub record IsRow (row : List (List Cell)) (width : ℕ) : Type 0 where
  pub readers : 0 < length row
  pub widths : (reader : ℕ) → reader < length row → length (slice_index_or row reader []) ≡ width
