-- The invariant of the fields of a read.
use Rattle.std.specs.Prelude.{◌≡◌, ℕ, ◌+◌, ◌/◌, ◌<◌, ◌≤◌, List, false, None, length}
use Rattle.reader_copies.specs.{Reading}
use Rattle.safe_number.specs.Bytes.{bit_in}

-- a read has come to a bit, and the bytes contain the bits below it
pub record KeepsBits (width bit : ℕ) (run : Reading) (bytes : List ℕ) (room : ℕ) : Type 0 where
  pub bit_in_width : bit ≤ width
  pub width_in_room : width ≤ room
  pub bytes_in_room : length bytes ≡ (room + 7) / 8
  pub going : run.value ≡ None
  -- in the last byte that was begun, the bits that are not read yet are 0
  pub rest : (k : ℕ) → bit ≤ k → k / 8 < (bit + 7) / 8 → bit_in bytes k ≡ false
