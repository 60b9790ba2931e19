-- A word as the bits of a number.
use Rattle.std.proofs.Common.{◌≡◌, ℕ, zero, suc, ◌+◌, ◌*◌, ◌/◌, ◌%◌, ◌^◌, ◌<◌, ◌≤◌, ◌==◌, false, cond, add-one, List, get_or, refl, sym, ◌∙◌, arith, ap, inl, inr}
use Rattle.std.proofs.lemmas.Bool.{cases_eq, eq-eqb, ne_eqb}
use Rattle.std.proofs.lemmas.List.{ext_get_or}
use Rattle.std.proofs.lemmas.Nat.{mod-pow-add}
use Rattle.std.proofs.lemmas.Nat.Bits.{bit_at_lowest, bit_at-suc}
use Rattle.safe_number.specs.{bits_of_number, number_of_bits}
use Rattle.safe_number.proofs.Bits.{length-bits_of_number}
use Rattle.reader_copies.specs.{bits_of_words, flag_in}
use Rattle.reader_copies.proofs.Words.{bit-found, length-bits}

number-bit : (w n k : ℕ) → k < w → get_or (bits_of_number w n) k false ≡ flag_in n k
number-bit zero n k h = absurd (omega arith)
number-bit (suc w) n zero h = sym (ap (λ x. x == 1) (bit_at_lowest n))
number-bit (suc w) n (suc k) h = number-bit w (n / 2) k (omega arith) ∙ sym (ap (λ x. x == 1) (bit_at-suc n k))

pub word-number : (words : List ℕ) (w n : ℕ) → w ≤ 64 → get_or words 0 0 ≡ n → bits_of_words words w ≡ bits_of_number w n
word-number words w n narrow is =
    ext_get_or false (bits_of_words words w) (bits_of_number w n) (length-bits words w ∙ sym (length-bits_of_number w n))
    (λ k below.
    let inside : k < w = omega (arith, length-bits words w) in
    let first : k / 64 ≡ 0 = omega arith in
    let here : k % 64 ≡ k = omega arith in
    bit-found words w k inside
    ∙ ap (λ p. flag_in (get_or words p 0) (k % 64)) first
    ∙ ap (λ v. flag_in v (k % 64)) is
    ∙ ap (flag_in n) here
    ∙ sym (number-bit w n k inside))

-- the lowest bits of a number as a number
pub number-low : (w n : ℕ) → number_of_bits (bits_of_number w n) ≡ n % 2 ^ w
number-low zero n = omega arith
number-low (suc w) n =
    let low : number_of_bits (bits_of_number w (n / 2)) ≡ n / 2 % 2 ^ w = number-low w (n / 2) in
    let whole : n % 2 ^ suc w ≡ (n / 2 % 2 ^ w) * 2 + n % 2 = ap (λ k. n % 2 ^ k) (sym (add-one w)) ∙ mod-pow-add n w 1 in
    ap (λ x. cond (n % 2 == 1) 1 0 + 2 * x) low ∙ elim (cases_eq (n % 2) 1) [
      | inl odd ↦ ap (λ b. cond b 1 0 + 2 * (n / 2 % 2 ^ w)) (eq-eqb (n % 2) 1 odd) ∙ omega (arith, whole)
      | inr even ↦ ap (λ b. cond b 1 0 + 2 * (n / 2 % 2 ^ w)) (ne_eqb (n % 2) 1 even) ∙ omega (arith, whole)
    ]

-- the number of the first bits of words
pub words-number : (words : List ℕ) (w : ℕ) → w ≤ 64 → number_of_bits (bits_of_words words w) ≡ get_or words 0 0 % 2 ^ w
words-number words w narrow = ap number_of_bits (word-number words w (get_or words 0 0) narrow refl) ∙ number-low w (get_or words 0 0)
