-- The meaning of the flags of copies.
use Rattle.std.specs.Prelude.{◌≡◌, ◌≢◌, ℕ, ◌<◌, ◌≤◌, ◌+◌, ◌/◌, ◌%◌, ◌==◌, Bool, true, false, List, map, slice_index_or}
use Rattle.std.specs.Int.{bit_at}
use Rattle.std.specs.List.{range_with_len}
use Rattle.safe_bit.specs.Cell.{Cell}
use Rattle.reader_copies.specs.declared.copies.Flags.{Flags}

-- bit k of a word is 1
abbrev pub flag_in : ℕ → ℕ → Bool
flag_in word k = bit_at word k == 1

-- the cell of copy k, one of sixty-four
abbrev pub cell_in_flags : Flags → ℕ → Cell
cell_in_flags flags k = record { value = flag_in flags.value k; writing = flag_in flags.writing k; reading = flag_in flags.reading k; touched = flag_in flags.touched k }

-- copies that open at the bits of a word
abbrev pub open_flags : ℕ → Flags
open_flags word = record { value = word; writing = 0; reading = 0; touched = 0 }

-- copy k of many, sixty-four to a place
abbrev pub cell_among : List Flags → ℕ → Cell
cell_among flags k = cell_in_flags (slice_index_or flags (k / 64) (open_flags 0)) (k % 64)

-- the first n copies
abbrev pub cells_of : List Flags → ℕ → List Cell
cells_of flags n = map (cell_among flags) (range_with_len 0 n)

-- bit k of the word is this one now, and the others are as they were
pub record SetsFlag (word k : ℕ) (flag : Bool) (new : ℕ) : Type 0 where
  pub same : flag_in new k ≡ flag
  pub others : (i : ℕ) → i < 64 → i ≢ k → flag_in new i ≡ flag_in word i

-- n ones from one place on
pub record IsMask (from n mask : ℕ) : Type 0 where
  pub inside : (i : ℕ) → from ≤ i → i < from + n → flag_in mask i ≡ true
  pub below : (i : ℕ) → i < from → flag_in mask i ≡ false
  pub above : (i : ℕ) → from + n ≤ i → flag_in mask i ≡ false
