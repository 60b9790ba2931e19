-- A reader has no read open.
use Rattle.std.specs.Prelude.{◌≡◌, ℕ, List, false}
use Rattle.reader_copies.specs.safe_bit.Cell.{Cell}
use Rattle.reader_copies.specs.{cell_at, HasCell}

-- no copy of the reader is being read
pub record IsIdle (row : List (List Cell)) (reader : ℕ) : Type 0 where
  pub idle : (bit : ℕ) → HasCell row bit reader → (cell_at row bit reader).reading ≡ false
