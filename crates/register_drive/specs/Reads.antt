-- A read during which no write is open.
use Rattle.std.specs.Prelude.{◌≡◌, ℕ, ◌<◌, List, Bool, length}
use Rattle.reader_copies.specs.safe_bit.Cell.{Cell}
use Rattle.reader_copies.specs.{IsRow, IsWritten}
use Rattle.safe_number.specs.{IsReading, IsUndisturbed, NumberRead, first_bits}

-- these are the first bits of the value that is written
abbrev pub AreWritten : List (List Cell) → ℕ → List Bool → Type 0
AreWritten row width bits = (v : ℕ → Bool) → IsWritten row v → bits ≡ first_bits v width

-- the read is not finished and no write disturbs it; the value that was written at its start is still written
pub record ReadsAlong (start row : List (List Cell)) (reader width : ℕ) (r : NumberRead) : Type 0 where
  pub shape : IsRow row width
  pub readers : length row ≡ length start
  pub reading : IsReading row reader r
  pub width_is : r.width ≡ width
  pub going : length r.bits < width
  pub written : (v : ℕ → Bool) → IsWritten start v → IsWritten row v
  pub undisturbed : (v : ℕ → Bool) → IsWritten start v → IsUndisturbed row v reader r
