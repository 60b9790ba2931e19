-- The greatest of some numbers, and its first index.
use Rattle.std.proofs.Common.{◌≡◌, ℕ, ◌+◌, ◌<◌, ◌≤◌, ◌⊎◌, max, fold, cond, List, [], ◌∷◌, length, refl, ap, arith, inl, inr}
use Rattle.std.proofs.lemmas.Bool.{cases_eq, ne_eqb, eq-eqb}
use Rattle.model.specs.{index_of}

pub place-here : (n x : ℕ) (xs : List ℕ) → x ≡ n → index_of n (x ∷ xs) ≡ 0
place-here n x xs same = ap (λ b. cond b 0 (1 + index_of n xs)) (eq-eqb x n same)

pub place-later : (n x : ℕ) (xs : List ℕ) → (x ≡ n → ⊥) → index_of n (x ∷ xs) ≡ 1 + index_of n xs
place-later n x xs other = ap (λ b. cond b 0 (1 + index_of n xs)) (ne_eqb x n other)

-- a fold by max is at least its initial value
pub fold-least : (a : ℕ) (xs : List ℕ) → a ≤ fold max a xs
fold-least a [] = omega arith
fold-least a (x ∷ xs) = let more = fold-least (max a x) xs in omega arith

-- the greatest is one of the items, or the initial value of the fold
place-greatest : (a : ℕ) (xs : List ℕ) → (fold max a xs ≡ a) ⊎ (index_of (fold max a xs) xs < length xs)
place-greatest a [] = inl refl
place-greatest a (x ∷ xs) = elim (cases_eq x (fold max (max a x) xs)) [
  | inl same ↦ let here = place-here (fold max (max a x) xs) x xs same in inr (omega (arith, here))
  | inr other ↦
      let later = place-later (fold max (max a x) xs) x xs other in
      elim (place-greatest (max a x) xs) [
        | inl first ↦ inl (omega (arith, first, other, fold-least (max a x) xs))
        | inr there ↦ inr (omega (arith, there, later))
      ]
]

-- it is one of the items, if there are some
pub greatest-there : (xs : List ℕ) → 0 < length xs → index_of (fold max 0 xs) xs < length xs
greatest-there [] some = absurd (omega arith)
greatest-there (x ∷ xs) some = elim (place-greatest 0 (x ∷ xs)) [
  | inl none ↦
      let more = fold-least (max 0 x) xs in
      let here : x ≡ fold max 0 (x ∷ xs) = omega (arith, none) in
      omega (arith, place-here (fold max 0 (x ∷ xs)) x xs here)
  | inr there ↦ there
]
