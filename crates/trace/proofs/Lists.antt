-- Looks into lists.
use Rattle.std.proofs.Common.{◌≡◌, ◌≢◌, ℕ, suc, ◌+◌, ◌<◌, ◌≤◌, List, ◌∷◌, Some, add-one, drop, drop-cons, get_or, length, replicate, slice_get, slice_set, sym, ap, ◌∙◌, subst, inl, inr, length-set}
use Rattle.std.proofs.lemmas.Bool.{cases_lt}
use Rattle.std.proofs.lemmas.Option.{get_or_from_slice_get, slice_get-get_or, slice_get_past}
use Rattle.std.proofs.lemmas.List.{get_or-replicate, get_or-set_same, get_or-set_other, length-replicate}

pub slice_get-set_same : {A : Type 0} (xs : List A) (i : ℕ) (x : A) → i < length xs → slice_get (slice_set xs i x) i ≡ Some x
slice_get-set_same xs i x within =
    slice_get-get_or (slice_set xs i x) i x (subst (λ n. i < n) (sym (length-set xs i x)) within) ∙ ap Some (get_or-set_same xs i x x within)

pub slice_get-set_other : {A : Type 0} (xs : List A) (i j : ℕ) (x : A) → j ≢ i → slice_get (slice_set xs i x) j ≡ slice_get xs j
slice_get-set_other xs i j x apart = elim (cases_lt j (length xs)) [
  | inl within ↦ slice_get-get_or (slice_set xs i x) j x (subst (λ n. j < n) (sym (length-set xs i x)) within)
      ∙ ap Some (get_or-set_other xs i j x x apart) ∙ sym (slice_get-get_or xs j x within)
  | inr past ↦ slice_get_past (slice_set xs i x) j (subst (λ n. n ≤ j) (sym (length-set xs i x)) past) ∙ sym (slice_get_past xs j past)
]

pub slice_get-replicate : {A : Type 0} (n i : ℕ) (x : A) → i < n → slice_get (replicate n x) i ≡ Some x
slice_get-replicate n i x within =
    slice_get-get_or (replicate n x) i x (subst (λ m. i < m) (sym (length-replicate n x)) within) ∙ ap Some (get_or-replicate n i x x within)

-- a list from an element on is that element and the rest
pub drop_more : {A : Type 0} (xs : List A) (i : ℕ) (x : A) → i < length xs → x ≡ get_or xs i x → drop i xs ≡ x ∷ drop (i + 1) xs
drop_more xs i x within is = drop-cons xs i x within ∙ ap (λ y. y ∷ drop (suc i) xs) (sym is) ∙ ap (λ k. x ∷ drop k xs) (sym (add-one i))

-- an element, whatever is given past the list
pub any_default : {A : Type 0} (xs : List A) (i : ℕ) (d x : A) → i < length xs → get_or xs i d ≡ x → x ≡ get_or xs i x
any_default xs i d x within is = sym (get_or_from_slice_get xs i x x (slice_get-get_or xs i d within ∙ ap Some is))
