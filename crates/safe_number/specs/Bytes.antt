-- Numbers as bytes and as bits, the least significant first.
use Rattle.std.specs.Prelude.{◌≡◌, ℕ, zero, suc, ◌+◌, ◌*◌, ◌/◌, ◌%◌, ◌==◌, Bool, false, List, [], ◌∷◌, ◌⊎◌, ◌<◌, map, if◌then◌else◌, slice_index_or}
use Rattle.std.specs.Int.{bit_at}
use Rattle.std.specs.List.{range_with_len}

-- the number that bytes make
abbrev pub little_endian : List ℕ → ℕ
little_endian [] = 0
little_endian (byte ∷ bytes) = byte + 256 * little_endian bytes

-- each of them is a byte
abbrev pub AreBytes : List ℕ → Type 0
AreBytes bytes = (k : ℕ) → slice_index_or bytes k 0 < 256

-- bit k of bytes is bit k % 8 of byte k / 8
abbrev pub bit_in : List ℕ → ℕ → Bool
bit_in bytes k = bit_at (slice_index_or bytes (k / 8) 0) (k % 8) == 1

-- the first n bits of bytes
abbrev pub bits_in : List ℕ → ℕ → List Bool
bits_in bytes n = map (bit_in bytes) (range_with_len 0 n)

-- the bytes have these bits, and 0 after them
abbrev pub IsBytesOf : List Bool → List ℕ → Type 0
IsBytesOf bits bytes = (k : ℕ) → bit_in bytes k ≡ slice_index_or bits k false

-- the number that bits make
abbrev pub number_of_bits : List Bool → ℕ
number_of_bits [] = 0
number_of_bits (b ∷ bits) = (if b then 1 else 0) + 2 * number_of_bits bits

-- the w lowest bits of a number
abbrev pub bits_of_number : ℕ → ℕ → List Bool
bits_of_number zero n = []
bits_of_number (suc w) n = (n % 2 == 1) ∷ bits_of_number w (n / 2)

-- no register has this width
abbrev pub IsBadWidth : ℕ → Type 0
IsBadWidth width = (width ≡ 0) ⊎ (1728 < width)
