-- Facts that hold of each port of a list.
use Rattle.std.proofs.Common.{◌≡◌, ◌+◌, ◌<◌, ℕ, zero, suc, List, [], ◌∷◌, ◌++◌, length, drop, get_or, Some, sym, ap, subst, ◌∙◌, below_more, arith}
use Rattle.std.specs.Prelude.{slice_get}

-- a fact about each item at its index holds after one more is appended
pub all_push : {A : Type 0} (P : ℕ → A → Type 0) (xs : List A) (x : A) → ((k : ℕ) (y : A) → slice_get xs k ≡ Some y → P k y) → P (length xs) x → (k : ℕ) (y : A) → slice_get (xs ++ x ∷ []) k ≡ Some y → P k y
all_push P [] x h is zero y e = let same : x ≡ y = cc in subst (P 0) same is
all_push P [] x h is (suc k) y e = absurd (cc)
all_push P (z ∷ xs) x h is zero y e = h zero y e
all_push P (z ∷ xs) x h is (suc k) y e = all_push (λ k. P (suc k)) xs x (λ i u f. h (suc i) u f) is k y e

-- such a fact holds after one more is put first
pub all_first : {A : Type 0} (P : ℕ → A → Type 0) (xs : List A) (x : A) → ((k : ℕ) (y : A) → slice_get xs k ≡ Some y → P (suc k) y) → P 0 x → (k : ℕ) (y : A) → slice_get (x ∷ xs) k ≡ Some y → P k y
all_first P xs x h is zero y e = let same : x ≡ y = cc in subst (P 0) same is
all_first P xs x h is (suc k) y e = h k y e

-- an item of the first part of a list is at the same index of the list
pub at_front : {A : Type 0} (xs ys : List A) (k : ℕ) (y : A) → slice_get xs k ≡ Some y → slice_get (xs ++ ys) k ≡ Some y
at_front [] ys zero y e = absurd (cc)
at_front [] ys (suc k) y e = absurd (cc)
at_front (x ∷ xs) ys zero y e = e
at_front (x ∷ xs) ys (suc k) y e = at_front xs ys k y e

-- such a fact holds of all items after the first
pub rest_of : {A : Type 0} (P : ℕ → A → Type 0) (xs : List A) → ((k : ℕ) (y : A) → slice_get xs k ≡ Some y → P k y) → (k : ℕ) (y : A) → slice_get (drop 1 xs) k ≡ Some y → P (suc k) y
rest_of P [] h k y e = absurd (cc)
rest_of P (x ∷ xs) h k y e = h (suc k) y e

-- an item that is found at an index
pub item_at : {A : Type 0} (xs : List A) (k : ℕ) (x : A) → k < length xs → x ≡ get_or xs k x → slice_get xs k ≡ Some x
item_at [] k x h e = absurd (omega arith)
item_at (y ∷ xs) zero x h e = ap (λ z. Some z) (sym e)
item_at (y ∷ xs) (suc k) x h e = item_at xs k x (omega arith) e

-- a list that is not empty is its first item, and the rest
pub first_and_rest : {A : Type 0} (xs : List A) (x : A) → 0 < length xs → x ≡ get_or xs 0 x → xs ≡ x ∷ drop 1 xs
first_and_rest [] x h e = absurd (omega arith)
first_and_rest (y ∷ xs) x h e = ap (λ z. z ∷ xs) (sym e)

-- a fact about each item before one, and about that one, holds of each item before the next
pub below_next : {A : Type 0} (P : A → Type 0) (xs : List A) (n : ℕ) (x : A) → slice_get xs n ≡ Some x → P x → ((k : ℕ) (y : A) → k < n → slice_get xs k ≡ Some y → P y) → (k : ℕ) (y : A) → k < n + 1 → slice_get xs k ≡ Some y → P y
below_next {A} P xs n x here is before k y low at =
    below_more (λ k. (y : A) → slice_get xs k ≡ Some y → P y) n (λ k low y at. before k y low at) (λ y at. let both : Some x ≡ Some y = sym here ∙ at in let same : x ≡ y = cc both in subst P same is) k low y at
