-- Masks, and what is done where they are.
use Rattle.std.proofs.Common.{◌≡◌, ◌≢◌, ℕ, ◌+◌, ◌-◌, ◌*◌, ◌/◌, ◌%◌, ◌^◌, ◌<◌, ◌≤◌, ◌==◌, Bool, true, false, ◌&&◌, bit_and, refl, sym, ◌∙◌, arith, ap, inl, inr}
use Rattle.std.specs.Int.{trailing_zeros, w64}
use Rattle.std.proofs.lemmas.Bool.{cases_lt}
use Rattle.std.proofs.Math.Nat.{mul_comm, mul-sub, mod-eq_of_lt}
use Rattle.std.proofs.lemmas.Nat.{and_le_r, pow-add, pow_pos}
use Rattle.std.proofs.Math.Pow.{pow_mono}
use Rattle.std.proofs.lemmas.Nat.Bits.{bit_at_mask_inside, bit_at_mask_below, bit_at_mask_above, bit_at_ones, bit_at-trailing_zeros, ones_shr}
use Rattle.reader_copies.specs.{IsMask, flag_in}
use Rattle.reader_copies.proofs.Flags.{flag-both, flag-zero}

pub flag-ones : (i : ℕ) → i < 64 → flag_in 18446744073709551615 i ≡ true
flag-ones i h = ap (λ b. b == 1) (bit_at_ones 64 i h)

pub mask-of : (from n : ℕ) → IsMask from n (2 ^ (from + n) - 2 ^ from)
mask-of from n = record {
  inside = λ i low high. ap (λ b. b == 1) (bit_at_mask_inside from (from + n) i low high);
  below = λ i low. ap (λ b. b == 1) (bit_at_mask_below from (from + n) i low);
  above = λ i high. ap (λ b. b == 1) (bit_at_mask_above from (from + n) i high);
}

left_false : (x y : Bool) → (x && y) ≡ false → y ≡ true → x ≡ false
left_false false y e t = refl
left_false true y e t = sym t ∙ e

-- no flag is in both words
pub none_both : (a b i : ℕ) → bit_and a b ≡ 0 → flag_in b i ≡ true → flag_in a i ≡ false
none_both a b i none there = left_false (flag_in a i) (flag_in b i) (sym (flag-both a b i) ∙ ap (λ w. flag_in w i) none ∙ flag-zero i) there

both_true : (x y : Bool) → (x && y) ≡ true → (x ≡ true) × (y ≡ true)
both_true true true e = (refl, refl)
both_true true false e = (refl, e)
both_true false y e = absurd (cc)

-- a flag that is in both words, where there is one
pub some_both : (a b : ℕ) → b < 18446744073709551616 → bit_and a b ≢ 0 → (i : ℕ) × (flag_in a i ≡ true) × (flag_in b i ≡ true)
some_both a b fits some =
    let i : ℕ = trailing_zeros w64 (bit_and a b) in
    let first = bit_at-trailing_zeros w64 (bit_and a b) (omega arith) (omega (arith, and_le_r a b)) in
    let there : flag_in (bit_and a b) i ≡ true = ap (λ x. x == 1) first.1 in
    let both = both_true (flag_in a i) (flag_in b i) (sym (flag-both a b i) ∙ there) in
    (i, both.0, both.1)

-- a flag of a mask lies where the mask does
pub mask-inside : (from n mask i : ℕ) → IsMask from n mask → flag_in mask i ≡ true → (from ≤ i) × (i < from + n)
mask-inside from n mask i masks there = (
  elim (cases_lt i from) [
    | inl low ↦ let none : false ≡ true = sym (masks.below i low) ∙ there in absurd (cc)
    | inr high ↦ high
  ],
  elim (cases_lt i (from + n)) [
    | inl low ↦ low
    | inr high ↦ let none : false ≡ true = sym (masks.above i high) ∙ there in absurd (cc)
  ],
)

-- the word that the code makes
pub mask-word : (from n : ℕ) → from + n ≤ 64 → 18446744073709551615 / 2 ^ (64 - n) * 2 ^ from % 18446744073709551616 ≡ 2 ^ (from + n) - 2 ^ from
mask-word from n h =
    let remaining : 64 - (64 - n) ≡ n = omega arith in
    let ones : 18446744073709551615 / 2 ^ (64 - n) ≡ 2 ^ n - 1 = ones_shr 64 (64 - n) (omega arith) ∙ ap (λ k. 2 ^ k - 1) remaining in
    let product : (2 ^ n - 1) * 2 ^ from ≡ 2 ^ (from + n) - 2 ^ from = mul_comm (2 ^ n - 1) (2 ^ from) ∙ mul-sub (2 ^ from) (2 ^ n) 1 ∙ omega (arith, pow-add 2 from n) in
    let small : 2 ^ (from + n) - 2 ^ from < 2 ^ 64 = omega (arith, pow_mono {i = from + n} {j = 64} h, pow_pos from) in
    ap (λ x. x * 2 ^ from % 18446744073709551616) ones ∙ ap (λ x. x % 18446744073709551616) product ∙ mod-eq_of_lt small
