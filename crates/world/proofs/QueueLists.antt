-- Lists with one boolean for each number below some bound: one boolean changed, and the indices of the trues.
use Rattle.std.proofs.Common.{◌≡◌, ◌≢◌, ℕ, zero, suc, ◌+◌, ◌<◌, ◌≤◌, ◌==◌, Bool, true, false, cond, [], ◌∷◌, filter, length, map, slice_set, slice_index_or, refl, sym, ap, ◌∙◌, arith, eqb-true}
use Rattle.std.proofs.lemmas.Bool.{eqb-false}
use Rattle.std.proofs.lemmas.List.{length-set, get_or-set_same, get_or-set_other, ext_get_or}
use Rattle.std.proofs.lemmas.List.FromFn.{length-map-range_with_len, get_or-map-range_with_len}
use Rattle.std.specs.List.{range_with_len}
use Rattle.world.specs.{listed_from}

-- functions that agree everywhere make one list
pub same-range : (f g : ℕ → Bool) (n : ℕ) → ((j : ℕ) → g j ≡ f j) → map g (range_with_len 0 n) ≡ map f (range_with_len 0 n)
same-range f g n h = ap (λ f. map f (range_with_len 0 n)) (λ i j. h j i)

-- functions that agree except at one number make lists that differ there
pub set-range : (f g : ℕ → Bool) (n p : ℕ) (v : Bool) → ((j : ℕ) → p ≢ j → g j ≡ f j) → g p ≡ v → map g (range_with_len 0 n) ≡ slice_set (map f (range_with_len 0 n)) p v
set-range f g n p v others there = ext_get_or false (map g (range_with_len 0 n)) (slice_set (map f (range_with_len 0 n)) p v)
    (omega (arith, length-map-range_with_len g 0 n, length-map-range_with_len f 0 n, length-set (map f (range_with_len 0 n)) p v)) (λ k l. at k l (p == k) refl)
  where
    at : (k : ℕ) → k < length (map g (range_with_len 0 n)) → (b : Bool) → (p == k) ≡ b → slice_index_or (map g (range_with_len 0 n)) k false ≡ slice_index_or (slice_set (map f (range_with_len 0 n)) p v) k false
    at k l b e = go b e
      where
        less : k < n
        less = omega (arith, l, length-map-range_with_len g 0 n)

        new : slice_index_or (map g (range_with_len 0 n)) k false ≡ g k
        new = get_or-map-range_with_len g 0 n k k false less (omega arith)

        go : (b : Bool) → (p == k) ≡ b → slice_index_or (map g (range_with_len 0 n)) k false ≡ slice_index_or (slice_set (map f (range_with_len 0 n)) p v) k false
        go true e =
            let same : p ≡ k = eqb-true p k e in
            new ∙ sym (ap g same) ∙ there
            ∙ sym (ap (λ i. slice_index_or (slice_set (map f (range_with_len 0 n)) p v) i false) (sym same)
            ∙ get_or-set_same (map f (range_with_len 0 n)) p v false (omega (arith, same, less, length-map-range_with_len f 0 n)))
        go false e =
            let apart : p ≢ k = eqb-false p k e in
            new ∙ others k apart
            ∙ sym (get_or-set_other (map f (range_with_len 0 n)) p k v false (λ u. apart (sym u)) ∙ get_or-map-range_with_len f 0 n k k false less (omega arith))

-- the indices of the trues are the numbers that pass
pub listed-range : (f : ℕ → Bool) (a n : ℕ) → listed_from a (map f (range_with_len a n)) ≡ filter f (range_with_len a n)
listed-range f a zero = refl
listed-range f a (suc n) = ap (λ l. cond (f a) (a ∷ l) l) (listed-range f (a + 1) n)

-- where none passes, none is kept
none-range : (f : ℕ → Bool) (a n : ℕ) → ((j : ℕ) → a ≤ j → f j ≡ false) → filter f (range_with_len a n) ≡ []
none-range f a zero h = refl
none-range f a (suc n) h = ap (λ b. cond b (a ∷ filter f (range_with_len (a + 1) n)) (filter f (range_with_len (a + 1) n))) (h a (omega arith)) ∙ none-range f (a + 1) n (λ j l. h j (omega (arith, l)))

-- numbers that do not pass make no difference at the end
pub longer-range : (f : ℕ → Bool) (a n m : ℕ) → n ≤ m → ((j : ℕ) → a + n ≤ j → f j ≡ false) → filter f (range_with_len a n) ≡ filter f (range_with_len a m)
longer-range f a zero m l h = sym (none-range f a m (λ j k. h j (omega (arith, k))))
longer-range f a (suc n) zero l h = absurd (omega (arith, l))
longer-range f a (suc n) (suc m) l h = ap (λ l. cond (f a) (a ∷ l) l) (longer-range f (a + 1) n m (omega (arith, l)) (λ j k. h j (omega (arith, k))))
