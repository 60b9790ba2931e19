-- Lists with one element for each process, of which one is changed.
use Rattle.std.proofs.Common.{◌≡◌, ◌≢◌, ℕ, zero, suc, ◌+◌, ◌<◌, ◌≤◌, ◌∷◌, map, refl, ap, ◌∙◌, arith}
use Rattle.std.specs.Prelude.{None, Some, slice_get, slice_set}
use Rattle.std.specs.List.{range_with_len}
use Rattle.std.proofs.lemmas.List.FromFn.{get_or-map-range_with_len, length-map-range_with_len}
use Rattle.std.proofs.lemmas.Option.{slice_get-get_or, slice_get_past}

-- all are mapped alike
pub map-mapped : {A : Type 0} (f g : ℕ → A) (h : A → A) (a n : ℕ) → ((q : ℕ) → a ≤ q → h (f q) ≡ g q) → map h (map f (range_with_len a n)) ≡ map g (range_with_len a n)
map-mapped f g h a zero same = refl
map-mapped f g h a (suc n) same = λ i. same a (omega arith) i ∷ map-mapped f g h (a + 1) n (λ q l. same q (omega (arith, l))) i

-- one is changed first
pub map-changed : {A : Type 0} (f g : ℕ → A) (h : A → A) (x : A) (a n i p : ℕ) → i < n → a + i ≡ p → h x ≡ g p → ((q : ℕ) → q ≢ p → h (f q) ≡ g q) →
    map h (slice_set (map f (range_with_len a n)) i x) ≡ map g (range_with_len a n)
map-changed f g h x a zero i p l is own other = absurd (omega (arith, l))
map-changed f g h x a (suc n) zero p l is own other = let same : p ≡ a = omega (arith, is) in λ k. (own ∙ ap g same) k ∷ map-mapped f g h (a + 1) n (λ q m. other q (λ u. omega (arith, u, m, is))) k
map-changed f g h x a (suc n) (suc i) p l is own other = λ k. other a (λ u. omega (arith, u, is)) k ∷ map-changed f g h x (a + 1) n i p (omega (arith, l)) (omega (arith, is)) own other k

-- the element at an index, and no element beyond the length
pub get-mapped : {A : Type 0} (f : ℕ → A) (a n i j : ℕ) → i < n → a + i ≡ j → slice_get (map f (range_with_len a n)) i ≡ Some (f j)
get-mapped f a n i j l is =
    slice_get-get_or (map f (range_with_len a n)) i (f j) (omega (arith, l, length-map-range_with_len f a n)) ∙ ap Some (get_or-map-range_with_len f a n i j (f j) l is)

pub get-beyond : {A : Type 0} (f : ℕ → A) (a n i : ℕ) → n ≤ i → slice_get (map f (range_with_len a n)) i ≡ None
get-beyond f a n i l = slice_get_past (map f (range_with_len a n)) i (omega (arith, l, length-map-range_with_len f a n))
