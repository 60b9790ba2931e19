-- The effect of a write on a register, and the bits of an undisturbed read.
use Rattle.std.specs.Prelude.{◌≡◌, ◌≢◌, ℕ, ◌*◌, ◌<◌, ◌≤◌, List, Bool, true, false, length, map}
use Rattle.std.specs.List.{range_with_len}
use Rattle.reader_copies.specs.safe_bit.Cell.{Cell, read_answer}
use Rattle.reader_copies.specs.{HasCell, IsClosed, IsPartlySettled, IsPartlyWritten, IsRow, Made, Settling, cell_at, next_read, row_after, settled_at}
use Rattle.safe_number.specs.Bytes.{bit_in}
use Rattle.safe_number.specs.Runs.{NumberWrite, NumberRead, bit_read, bit_write}

-- a write of a value over old bits has come so far
pub record IsWriting (row : List (List Cell)) (old : ℕ → Bool) (value : List ℕ) (w : NumberWrite) : Type 0 where
  pub shape : IsRow row w.width
  pub inside : w.bit ≤ w.width
  pub partly : IsPartlyWritten row old (bit_in value) w.bit (bit_write value w).made
  pub same : (bit_write value w).value ≡ bit_in value w.bit
  pub going : (bit_write value w).made < 2 * length row
  pub unended : (bit_write value w).ended ≡ false
  -- past the last bit nothing was begun
  pub whole : w.width ≤ w.bit → (bit_write value w).made ≡ 0

-- the settling of a torn bit has come so far, at any value that it may still settle at; the other bits have these values
pub record IsSettling (row : List (List Cell)) (others : ℕ → Bool) (b : ℕ) (torn : Settling) : Type 0 where
  pub partly : (v : Bool) → settled_at torn v ≡ v → IsPartlySettled row others b torn.made v torn.reader torn.begun

-- the first n of these bits
abbrev pub first_bits : (ℕ → Bool) → ℕ → List Bool
first_bits v n = map v (range_with_len 0 n)

-- a read by a reader has come so far, and no other of its reads is open
pub record IsReading (row : List (List Cell)) (reader : ℕ) (r : NumberRead) : Type 0 where
  pub turn : HasCell row (length r.bits) reader → (cell_at row (length r.bits) reader).reading ≡ r.begun
  pub idle : (bit : ℕ) → HasCell row bit reader → bit ≢ length r.bits → (cell_at row bit reader).reading ≡ false

-- no write was open during it, and the bits have these values
pub record IsUndisturbed (row : List (List Cell)) (v : ℕ → Bool) (reader : ℕ) (r : NumberRead) : Type 0 where
  pub so_far : r.bits ≡ first_bits v (length r.bits)
  pub untouched : HasCell row (length r.bits) reader → r.begun ≡ true → (cell_at row (length r.bits) reader).touched ≡ false

-- the value with which the read of the present bit would end
abbrev pub loaded : List (List Cell) → ℕ → NumberRead → Bool → Bool
loaded row reader r flick = read_answer (cell_at row (length r.bits) reader) flick

-- the next access of a read, by what the present bit's would end with
abbrev pub read_made : List (List Cell) → ℕ → NumberRead → Bool → Made
read_made row reader r flick = next_read reader (bit_read r) (loaded row reader r flick)

-- the register after it
abbrev pub register_read : List (List Cell) → ℕ → NumberRead → Bool → List (List Cell)
register_read row reader r flick = row_after row (length r.bits) (read_made row reader r flick)

-- no access to any bit is open
abbrev pub AreClosed : List (List Cell) → Type 0
AreClosed row = (bit reader : ℕ) → HasCell row bit reader → IsClosed (cell_at row bit reader)
