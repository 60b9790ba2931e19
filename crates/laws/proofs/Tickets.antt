-- Tickets that were read, and the greatest one among them.
use Rattle.std.proofs.Common.{◌≡◌, ◌≢◌, ℕ, suc, ◌+◌, ◌<◌, ◌≤◌, ◌==◌, max, Bool, true, false, cond, List, [], ◌∷◌, ◌++◌, Some, None, length, fold, slice_index, refl, sym, ap, ◌∙◌, arith, eqb-true}
use Rattle.std.proofs.lemmas.Bool.{eqb-false}
use Rattle.model.specs.{index_of, lowest_full}

-- all of them are at most top
abbrev pub AllUpTo : ℕ → List ℕ → Type 0
AllUpTo top [] = Unit {0}
AllUpTo top (t ∷ ts) = (t ≤ top) × AllUpTo top ts

pub up_to-push : (top : ℕ) (ts : List ℕ) (t : ℕ) → AllUpTo top ts → t ≤ top → AllUpTo top (ts ++ t ∷ [])
up_to-push top [] t h l = (l, tt)
up_to-push top (x ∷ ts) t h l = (h.0, up_to-push top ts t h.1 l)

-- the greatest of them is not below any, where one begins with a
pub above : (a : ℕ) (ts : List ℕ) → a ≤ fold max a ts
above a [] = omega arith
above a (t ∷ ts) = let l = above (max a t) ts in grind (arith, l)

-- the greatest is not above the top, if no number is
most : (top a : ℕ) (ts : List ℕ) → AllUpTo top ts → a ≤ top → fold max a ts ≤ top
most top a [] h l = l
most top a (t ∷ ts) h l = let k = h.0 in let m : max a t ≤ top = grind (arith, l, k) in most top (max a t) ts h.1 m

-- if the greatest is not the top, no process is named
pub none_full : (top a : ℕ) (js ts : List ℕ) → AllUpTo top ts → a ≤ top → (fold max a ts == top) ≡ false → lowest_full top js ts ≡ None
none_full top a [] ts h l ne = refl
none_full top a (j ∷ js) [] h l ne = refl
none_full top a (j ∷ js) (t ∷ ts) h l ne =
    let k = h.0 in
    let m : max a t ≤ top = grind (arith, l, k) in
    go (t == top) refl (none_full top (max a t) js ts h.1 m ne)
  where
    go : (b : Bool) → (t == top) ≡ b → lowest_full top js ts ≡ None → cond b (Some j) (lowest_full top js ts) ≡ None
    go true e rest =
        let is : t ≡ top = eqb-true t top e in
        let up : max a t ≡ top = grind (arith, is, l) in
        let low = above (max a t) ts in
        let high = most top (max a t) ts h.1 (omega (arith, up)) in
        absurd (eqb-false (fold max (max a t) ts) top ne (omega (arith, low, high, up)))
    go false e rest = rest

pub still-below : (top a t f : ℕ) → max a t ≤ f → f ≡ top → a < top → t ≢ top → max a t < top
still-below top a t f up e l ne = grind (arith, up, e, l, ne)

-- if the greatest is the top, the process at its first place is the lowest one whose ticket was the top
pub lowest_is : (top a : ℕ) (js ts : List ℕ) → length js ≡ length ts → a < top → fold max a ts ≡ top → lowest_full top js ts ≡ Some (slice_index js (index_of top ts))
lowest_is top a [] [] same l e = absurd (omega (arith, l, e))
lowest_is top a [] (t ∷ ts) same l e = absurd (omega (arith, same))
lowest_is top a (j ∷ js) [] same l e = absurd (omega (arith, same))
lowest_is top a (j ∷ js) (t ∷ ts) same l e = go (t == top) refl (λ m. lowest_is top (max a t) js ts (omega (arith, same)) m e)
  where
    one : 1 + index_of top ts ≡ suc (index_of top ts)
    one = omega arith

    go : (b : Bool) → (t == top) ≡ b → (max a t < top → lowest_full top js ts ≡ Some (slice_index js (index_of top ts))) →
        cond b (Some j) (lowest_full top js ts) ≡ Some (slice_index (j ∷ js) (cond b 0 (1 + index_of top ts)))
    go true is rest = refl
    go false is rest =
        rest (still-below top a t (fold max (max a t) ts) (above (max a t) ts) e l (eqb-false t top is)) ∙ ap (λ k. Some (slice_index (j ∷ js) k)) (sym one)
