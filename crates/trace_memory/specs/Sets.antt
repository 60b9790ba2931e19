-- Sets of values below 256: four words, whose bits are the values.
use Rattle.std.specs.Prelude.{ℕ, ◌==◌, ◌*◌, ◌/◌, ◌%◌, ◌^◌, Bool, List, [], ◌∷◌, slice_index, slice_set}
use Rattle.std.specs.Int.{bit_at}
use Rattle.std.specs.Int.RustNames.{bit_or}
use Rattle.trace_memory.specs.declared.value_set.ValueSet.{ValueSet}

-- no value
abbrev pub no_values : ValueSet
no_values = record { words = 0 ∷ 0 ∷ 0 ∷ 0 ∷ [] }

-- a word with a bit more
abbrev pub with_bit : ℕ → ℕ → ℕ
with_bit k word = bit_or word (1 * 2 ^ k % 2 ^ 64)

-- one value more, if it is below 256
abbrev pub with_value : ℕ → ValueSet → ValueSet
with_value v set = record { words = slice_set set.words (v / 64) (with_bit (v % 64) (slice_index set.words (v / 64))) }

-- the set has a value
abbrev pub has_value : ValueSet → ℕ → Bool
has_value set v = bit_at (slice_index set.words (v / 64)) (v % 64) == 1

-- the set of these values, as far as they are below 256
abbrev pub set_of : List ℕ → ValueSet
set_of [] = no_values
set_of (v ∷ values) = with_value v (set_of values)
