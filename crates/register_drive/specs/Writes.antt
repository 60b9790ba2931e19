-- A register during writes and settling.
use Rattle.std.specs.Prelude.{ℕ, List, Bool}
use Rattle.reader_copies.specs.{IsWritten, Settling, with_value}
use Rattle.reader_copies.specs.safe_bit.Cell.{Cell}
use Rattle.safe_number.specs.{IsSettling, IsWriting, NumberWrite}

-- a write continues
abbrev pub WritesOn : List (List Cell) → NumberWrite → List ℕ → List (List Cell) → NumberWrite → Type 0
WritesOn row run value row_then run_then = (old : ℕ → Bool) → IsWriting row old value run → IsWriting row_then old value run_then

-- a torn bit is settled at a value
abbrev pub SettlesAt : List (List Cell) → ℕ → Settling → Bool → List (List Cell) → Type 0
SettlesAt row bit torn value row_then = (others : ℕ → Bool) → IsSettling row others bit torn → IsWritten row_then (with_value others bit value)
