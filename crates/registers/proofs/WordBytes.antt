-- Words as bytes.
use Rattle.std.proofs.Common.{◌≡◌, ℕ, ◌+◌, ◌-◌, ◌*◌, ◌/◌, ◌%◌, ◌^◌, ◌<◌, ◌==◌, false, List, get_or, set, take, drop, length, sym, ap, subst, inl, inr, ◌∙◌, arith, length-take}
use Rattle.std.specs.Int.{bit_at}
use Rattle.std.proofs.lemmas.Bool.{cases_eq, cases_lt}
use Rattle.std.proofs.lemmas.List.{ext_get_or, get_or-drop, get_or-take, get_or_past}
use Rattle.std.proofs.lemmas.List.FromFn.{get_or-map-range_with_len, length-map-range_with_len}
use Rattle.std.proofs.lemmas.Nat.{pow_pos}
use Rattle.std.proofs.lemmas.Nat.Bits.{bit_at_cat_high, bit_at_cat_low}
use Rattle.safe_number.specs.{AreBytes, bit_in, bits_in, little_endian}
use Rattle.safe_number.proofs.Bits.{bit_in-number}
use Rattle.reader_copies.specs.{bit_of_words, bits_of_words, flag_in}
use Rattle.registers.specs.{byte_of_word}
use Rattle.reader_copies.proofs.Words.{bit-found, length-bits}
use Rattle.registers.proofs.Words.{bit-elsewhere, bit-in_word}

bit-shifted : (w k i : ℕ) → bit_at (w / 2 ^ k) i ≡ bit_at w (k + i)
bit-shifted w k i =
    let pos : 0 < 2 ^ k = pow_pos k in
    let low : w % 2 ^ k < 2 ^ k = omega arith in
    let all : w / 2 ^ k * 2 ^ k + w % 2 ^ k ≡ w = omega arith in
    let at : i ≡ k + i - k = omega arith in
    ap (bit_at (w / 2 ^ k)) at ∙ sym (bit_at_cat_high (w / 2 ^ k) k (w % 2 ^ k) (k + i) low (omega arith)) ∙ ap (λ n. bit_at n (k + i)) all

bit-low : (n i : ℕ) → i < 8 → bit_at (n % 256) i ≡ bit_at n i
bit-low n i inside =
    let all : n / 256 * 2 ^ 8 + n % 256 ≡ n = omega arith in
    sym (bit_at_cat_low (n / 256) 8 (n % 256) i inside) ∙ ap (λ m. bit_at m i) all

byte-bit : (word j i : ℕ) → i < 8 → bit_at (byte_of_word word j) i ≡ bit_at word (8 * j + i)
byte-bit word j i inside = bit-low (word / 2 ^ (8 * j)) i inside ∙ bit-shifted word (8 * j) i

-- a bit by the byte that contains it
pub byte-has : (words bytes : List ℕ) (k : ℕ) → get_or bytes (k / 8) 0 ≡ byte_of_word (get_or words (k / 8 / 8) 0) (k / 8 % 8) → bit_in bytes k ≡ bit_of_words words k
byte-has words bytes k e =
    let p : k / 8 / 8 ≡ k / 64 = omega arith in
    let q : 8 * (k / 8 % 8) + k % 8 ≡ k % 64 = omega arith in
    ap (λ b. bit_at b (k % 8) == 1) e
    ∙ ap (λ x. x == 1) (byte-bit (get_or words (k / 8 / 8) 0) (k / 8 % 8) (k % 8) (omega arith))
    ∙ (λ i. bit_at (get_or words (p i) 0) (q i) == 1)

-- a bit by the word of eight bytes
pub word-has : (bytes eight : List ℕ) (place k : ℕ) → AreBytes eight → ((j : ℕ) → j < 8 → get_or eight j 0 ≡ get_or bytes (8 * place + j) 0) → k / 64 ≡ place → flag_in (little_endian eight) (k % 64) ≡ bit_in bytes k
word-has bytes eight place k are same at =
    let p : 8 * place + k % 64 / 8 ≡ k / 8 = omega arith in
    let q : k % 64 % 8 ≡ k % 8 = omega arith in
    sym (bit_in-number eight (k % 64) are)
    ∙ ap (λ b. bit_at b (k % 64 % 8) == 1) (same (k % 64 / 8) (omega arith))
    ∙ (λ i. bit_at (get_or bytes (p i) 0) (q i) == 1)

-- eight bytes of more
pub eight-bytes : (bytes : List ℕ) (place : ℕ) → ((k : ℕ) → get_or bytes k 0 < 256) → AreBytes (take 8 (drop (8 * place) bytes))
eight-bytes bytes place are = λ j. elim (cases_lt j 8) [
  | inl inside ↦ subst (λ b. b < 256) (sym (get_or-take 8 (drop (8 * place) bytes) j 0 inside ∙ get_or-drop (8 * place) bytes j 0)) (are (8 * place + j))
  | inr past ↦ subst (λ b. b < 256) (sym (get_or_past (take 8 (drop (8 * place) bytes)) j 0 (omega (arith, length-take 8 (drop (8 * place) bytes))))) (omega arith)
]

-- the word of eight bytes is appended to those before it
pub word-put : (bytes words : List ℕ) (place eight : ℕ) → length words ≡ 27 → place < 27 → eight ≡ 8 → ((k : ℕ) → get_or bytes k 0 < 256) → ((k : ℕ) → k < 64 * place → bit_of_words words k ≡ bit_in bytes k) →
    (k : ℕ) → k < 64 * (place + 1) → bit_of_words (set words place (little_endian (take eight (drop (8 * place) bytes)))) k ≡ bit_in bytes k
word-put bytes words place eight room inside is are before k below =
    let word : ℕ = little_endian (take 8 (drop (8 * place) bytes)) in
    ap (λ n. bit_of_words (set words place (little_endian (take n (drop (8 * place) bytes)))) k) is
    ∙ elim (cases_eq (k / 64) place) [
      | inl here ↦
          bit-in_word words place word k (omega (arith, room)) here
          ∙ word-has bytes (take 8 (drop (8 * place) bytes)) place k (eight-bytes bytes place are) (λ j h. get_or-take 8 (drop (8 * place) bytes) j 0 h ∙ get_or-drop (8 * place) bytes j 0) here
      | inr other ↦ bit-elsewhere words place word k other ∙ before k (omega arith)
    ]

-- the first bits of words are those of the bytes
pub bits-as-bytes : (words bytes : List ℕ) (n : ℕ) → ((k : ℕ) → k < n → bit_of_words words k ≡ bit_in bytes k) → bits_of_words words n ≡ bits_in bytes n
bits-as-bytes words bytes n same =
    ext_get_or false (bits_of_words words n) (bits_in bytes n) (length-bits words n ∙ sym (length-map-range_with_len (bit_in bytes) 0 n))
    (λ k below.
    let inside : k < n = omega (arith, length-bits words n) in
    bit-found words n k inside ∙ same k inside ∙ sym (get_or-map-range_with_len (bit_in bytes) 0 n k k false inside (omega arith)))
