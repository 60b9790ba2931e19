-- The bytes of a register are made by its bits.
use Rattle.std.proofs.Common.{◌≡◌, ℕ, zero, suc, ◌+◌, ◌-◌, ◌*◌, ◌/◌, ◌%◌, ◌<◌, ◌==◌, ◌||◌, Bool, false, cond, List, [], ◌∷◌, length, take, drop, get_or, set, min, replicate, refl, sym, ap, ◌∙◌, arith, inl, inr}
use Rattle.std.specs.Int.{bit_at}
use Rattle.std.proofs.lemmas.Bool.{cases_eq, cases_lt}
use Rattle.std.proofs.lemmas.List.{get_or-drop, get_or-take, get_or_past, length-take}
use Rattle.safe_bit.specs.Cell.{Cell}
use Rattle.safe_number.specs.{AreBytes, IsBytesOf, number_of_bits}
use Rattle.safe_number.proofs.Bits.{number-bytes}
use Rattle.safe_number.proofs.Numbers.{bit_in-past}
use Rattle.reader_copies.specs.{IsMask, bit_of_words, bits_of_words, cell_in, flag_in}
use Rattle.reader_copies.proofs.Flags.{flag-zero}
use Rattle.reader_copies.proofs.Words.{bit-found, length-bits}
use Rattle.model.specs.{bytes_of_bits}
use Rattle.registers.specs.CopyBytes.{has_open_write, register_bytes}
use Rattle.registers.proofs.Words.{bit-elsewhere, bit-in_word}

-- Bytes.

-- the first byte has the first 8 bits, or all where there are fewer
first-byte : (bits : List Bool) (b : ℕ) (bytes : List ℕ) → IsBytesOf bits (b ∷ bytes) → IsBytesOf (take 8 bits) (b ∷ [])
first-byte bits b bytes of k = elim (cases_lt k 8) [
  | inl low ↦
      let here : k / 8 ≡ 0 = omega arith in
      ap (λ i. bit_at (get_or (b ∷ []) i 0) (k % 8) == 1) here
      ∙ sym (ap (λ i. bit_at (get_or (b ∷ bytes) i 0) (k % 8) == 1) here)
      ∙ of k ∙ sym (get_or-take 8 bits k false low)
  | inr high ↦ bit_in-past (b ∷ []) k (omega arith) ∙ sym (get_or_past (take 8 bits) k false (omega (arith, length-take 8 bits)))
]

-- the other bytes have the others
other-bytes : (bits : List Bool) (b : ℕ) (bytes : List ℕ) → IsBytesOf bits (b ∷ bytes) → IsBytesOf (drop 8 bits) bytes
other-bytes bits b bytes of k =
    let next : (8 + k) / 8 ≡ suc (k / 8) = omega arith in
    let same : (8 + k) % 8 ≡ k % 8 = omega arith in
    sym (ap (λ i. bit_at (get_or (b ∷ bytes) i 0) ((8 + k) % 8) == 1) next ∙ ap (λ i. bit_at (get_or bytes (k / 8) 0) i == 1) same)
    ∙ of (8 + k) ∙ sym (get_or-drop 8 bits k false)

one-byte : (b : ℕ) → b < 256 → AreBytes (b ∷ [])
one-byte b h zero = h
one-byte b h (suc j) = omega (arith, get_or_past {X = ℕ} [] j 0 (omega arith))

-- bytes with these bits, and with zeros after them, are those that the bits make
pub bytes-made : (k : ℕ) (bits : List Bool) (bytes : List ℕ) → length bytes ≡ k → AreBytes bytes → IsBytesOf bits bytes → bytes ≡ bytes_of_bits k bits
bytes-made zero bits [] many are of = refl
bytes-made zero bits (b ∷ bytes) many are of = absurd (omega arith)
bytes-made (suc k) bits [] many are of = absurd (omega arith)
bytes-made (suc k) bits (b ∷ bytes) many are of =
    let first : b + 256 * 0 ≡ number_of_bits (take 8 bits) = number-bytes (take 8 bits) (b ∷ []) (one-byte b (are 0)) (first-byte bits b bytes of) in
    let is : b ≡ number_of_bits (take 8 bits) = omega arith in
    ap (λ x. x ∷ bytes) is ∙ ap (λ xs. number_of_bits (take 8 bits) ∷ xs) (bytes-made k (drop 8 bits) bytes (omega arith) (λ j. are (suc j)) (other-bytes bits b bytes of))

pub register-made : (bits : List Bool) (bytes : List ℕ) → length bytes ≡ 216 → AreBytes bytes → IsBytesOf bits bytes → bytes ≡ register_bytes bits
unfolding register_bytes
register-made bits bytes many are of = bytes-made 216 bits bytes many are of

-- Words.

-- a bit of words of zeros
zero-word : (n i : ℕ) → let none : ℕ = 0 in get_or (replicate n none) i none ≡ none
zero-word zero i = refl
zero-word (suc n) zero = refl
zero-word (suc n) (suc i) = zero-word n i

pub zero-bits : (words : List ℕ) (n k : ℕ) → words ≡ replicate n 0 → bit_of_words words k ≡ false
zero-bits words n k is = ap (λ w. flag_in w (k % 64)) (ap (λ l. get_or l (k / 64) 0) is ∙ zero-word n (k / 64)) ∙ flag-zero (k % 64)

-- one word more, of which the first bits are kept
pub bits-cut : (words kept : List ℕ) (bits place mask word : ℕ) → length kept ≡ 27 → place < 27 → IsMask 0 (min (bits - 64 * place) 64) mask →
    ((i : ℕ) → flag_in word i ≡ cond (flag_in mask i) (flag_in (get_or words place 0) i) (flag_in 0 i)) →
    ((k : ℕ) → k < 64 * place → bit_of_words kept k ≡ get_or (bits_of_words words bits) k false) →
    (k : ℕ) → k < 64 * (place + 1) → bit_of_words (set kept place word) k ≡ get_or (bits_of_words words bits) k false
bits-cut words kept bits place mask word room inside masks chosen before k below = elim (cases_eq (k / 64) place) [
  | inl here ↦
      bit-in_word kept place word k (omega (arith, room)) here ∙ chosen (k % 64)
      ∙ elim (cases_lt k bits) [
        | inl low ↦
            ap (λ b. cond b (flag_in (get_or words place 0) (k % 64)) (flag_in 0 (k % 64))) (masks.inside (k % 64) (omega arith) (omega arith))
            ∙ ap (λ p. flag_in (get_or words p 0) (k % 64)) (sym here) ∙ sym (bit-found words bits k low)
        | inr high ↦
            ap (λ b. cond b (flag_in (get_or words place 0) (k % 64)) (flag_in 0 (k % 64))) (masks.above (k % 64) (omega arith))
            ∙ flag-zero (k % 64) ∙ sym (get_or_past (bits_of_words words bits) k false (omega (arith, length-bits words bits)))
      ]
  | inr other ↦ bit-elsewhere kept place word k other ∙ before k (omega arith)
]

-- Copies.

-- no write is open where none is of each copy
pub none-open : (copies : List Cell) → ((k : ℕ) → k < length copies → (cell_in copies k).writing ≡ false) → has_open_write copies ≡ false
none-open [] none = refl
none-open (c ∷ copies) none = (λ i. none 0 (omega arith) i || has_open_write copies) ∙ none-open copies (λ k below. none (suc k) (omega arith))
