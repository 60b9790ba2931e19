-- The end of a line.
use Rattle.std.proofs.Common.{◌≡◌, ℕ, zero, suc, ◌-◌, ◌==◌, Bool, true, false, if◌then◌else◌, List, [], ◌∷◌, length, take, Some, refl, ap, sym, ◌∙◌, arith}
use Rattle.std.proofs.lemmas.Bool.Decides.{nat_tests}
use Rattle.std.proofs.lemmas.List.{take_all}
use Rattle.std.specs.List.{slice_get}
use Rattle.files.specs.{without_return}

-- a last byte 0x0D is dropped
dropped_at : (n : ℕ) (xs : List ℕ) → length xs ≡ suc n → slice_get xs n ≡ Some 13 → take n xs ≡ without_return xs
dropped_at n [] is last = absurd (omega (arith, is))
dropped_at zero (b ∷ []) is last =
    let returns : b ≡ 13 = cc in
    let test : (b == 13) ≡ true = grind (arith, nat_tests) in
    sym (ap (λ t. if t then [] else b ∷ []) test)
dropped_at zero (b ∷ c ∷ bs) is last = absurd (omega (arith, is))
dropped_at (suc n) (b ∷ []) is last = absurd (omega (arith, is))
dropped_at (suc n) (b ∷ c ∷ bs) is last = ap (λ l. b ∷ l) (dropped_at n (c ∷ bs) (omega (arith, is)) last)

pub with_return : (xs : List ℕ) → slice_get xs (length xs - 1) ≡ Some 13 → take (length xs - 1) xs ≡ without_return xs
with_return [] last = absurd (cc)
with_return (b ∷ bs) last = dropped_at (length (b ∷ bs) - 1) (b ∷ bs) (omega arith) last

-- a last byte other than 0x0D stays
kept_at : (n : ℕ) (xs : List ℕ) → length xs ≡ suc n → (slice_get xs n ≡ Some 13 → ⊥) → xs ≡ without_return xs
kept_at n [] is other = refl
kept_at zero (b ∷ []) is other = by (b == 13) refl
  where
    by : (t : Bool) → (b == 13) ≡ t → b ∷ [] ≡ (if t then [] else b ∷ [])
    by true is13 = let same : b ≡ 13 = grind (arith, nat_tests) in absurd (other (ap Some same))
    by false is13 = refl
kept_at zero (b ∷ c ∷ bs) is other = absurd (omega (arith, is))
kept_at (suc n) (b ∷ []) is other = absurd (omega (arith, is))
kept_at (suc n) (b ∷ c ∷ bs) is other = ap (λ l. b ∷ l) (kept_at n (c ∷ bs) (omega (arith, is)) other)

pub with_none : (xs : List ℕ) → (slice_get xs (length xs - 1) ≡ Some 13 → ⊥) → xs ≡ without_return xs
with_none [] other = refl
with_none (b ∷ bs) other = kept_at (length (b ∷ bs) - 1) (b ∷ bs) (omega arith) other

pub all_kept : (xs : List ℕ) → (slice_get xs (length xs - 1) ≡ Some 13 → ⊥) → take (length xs) xs ≡ without_return xs
all_kept xs other = take_all (length xs) xs (omega arith) ∙ with_none xs other
