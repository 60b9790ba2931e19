-- Lists that are gone through from the front.
use Rattle.std.proofs.Common.{◌≡◌, ◌<◌, ℕ, zero, suc, List, [], ◌∷◌, ◌++◌, length, map, take, drop, Some, refl, ap, arith}
use Rattle.std.specs.Prelude.{slice_get}

-- an index below the length has an item
pub there : {A : Type 0} (xs : List A) (k : ℕ) → k < length xs → (x : A) × (slice_get xs k ≡ Some x)
there [] k h = absurd (omega arith)
there (x ∷ xs) zero h = (x, refl)
there (x ∷ xs) (suc k) h = there xs k (omega arith)

-- the first remaining item has the index that is the number of earlier ones
pub at_drop : {A : Type 0} (xs : List A) (n : ℕ) (x : A) (rest : List A) → drop n xs ≡ x ∷ rest → slice_get xs n ≡ Some x
at_drop [] zero x rest h = cc
at_drop [] (suc n) x rest h = cc
at_drop (y ∷ xs) zero x rest h = cc
at_drop (y ∷ xs) (suc n) x rest h = at_drop xs n x rest h

-- the rest after it remains after one more step
pub drop_more : {A : Type 0} (xs : List A) (n : ℕ) (x : A) (rest : List A) → drop n xs ≡ x ∷ rest → drop (suc n) xs ≡ rest
drop_more [] zero x rest h = cc
drop_more [] (suc n) x rest h = cc
drop_more (y ∷ xs) zero x rest h = cc
drop_more (y ∷ xs) (suc n) x rest h = drop_more xs n x rest h

-- the items before the next index
pub take_more : {A : Type 0} (xs : List A) (n : ℕ) (x : A) → slice_get xs n ≡ Some x → take (suc n) xs ≡ take n xs ++ x ∷ []
take_more [] zero x h = cc
take_more [] (suc n) x h = cc
take_more (y ∷ xs) zero x h = let same : y ≡ x = cc in ap (λ z. z ∷ []) same
take_more (y ∷ xs) (suc n) x h = ap (λ zs. y ∷ zs) (take_more xs n x h)

-- an item of a list, mapped, is an item of the mapped list
pub at_mapped : {A B : Type 0} (f : A → B) (xs : List A) (k : ℕ) (x : A) → slice_get xs k ≡ Some x → slice_get (map f xs) k ≡ Some (f x)
at_mapped f [] zero x h = cc
at_mapped f [] (suc k) x h = cc
at_mapped f (y ∷ xs) zero x h = let same : y ≡ x = cc in ap (λ z. Some (f z)) same
at_mapped f (y ∷ xs) (suc k) x h = at_mapped f xs k x h
