-- Bytes in words of sixty-four bits, the least significant first.
use Rattle.std.specs.Prelude.{ℕ, ◌*◌, ◌/◌, ◌%◌, ◌^◌}

-- one of the eight bytes of a word, the least significant first
abbrev pub byte_of_word : ℕ → ℕ → ℕ
byte_of_word word place = word / 2 ^ (8 * place) % 256
