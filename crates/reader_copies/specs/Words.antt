-- Bits in words of sixty-four, the least significant first.
use Rattle.std.specs.Prelude.{ℕ, zero, suc, ◌/◌, ◌%◌, Bool, List, [], ◌∷◌, ◌++◌, slice_index_or}
use Rattle.reader_copies.specs.Flags.{flag_in}

-- bit k of words
abbrev pub bit_of_words : List ℕ → ℕ → Bool
bit_of_words words k = flag_in (slice_index_or words (k / 64) 0) (k % 64)

-- the first n bits of words
abbrev pub bits_of_words : List ℕ → ℕ → List Bool
bits_of_words words zero = []
bits_of_words words (suc n) = bits_of_words words n ++ bit_of_words words n ∷ []
