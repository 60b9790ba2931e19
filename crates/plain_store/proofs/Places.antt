-- Pairs in eight places.
use Rattle.std.proofs.Common.{◌≡◌, ℕ, zero, suc, ◌-◌, ◌<◌, List, [], ◌∷◌, ◌++◌, Option, Some, None, length, set, map, replicate, refl, ap, sym, ◌∙◌, append_assoc, arith, length-append}
use Rattle.std.proofs.Math.Seq.{set-append_seam}
use Rattle.std.proofs.lemmas.List.{map-append, length-map}
use Rattle.plain_store.specs.{Pair, placed, pairs_in}

-- empty places contain no pairs
nothing : (n : ℕ) → pairs_in (replicate n None) ≡ []
nothing zero = refl
nothing (suc n) = nothing n

-- pairs that were placed are the pairs in the places
pub pairs_in-placed : (pairs : List Pair) (n : ℕ) → pairs_in (map Some pairs ++ replicate n None) ≡ pairs
pairs_in-placed [] n = nothing n
pairs_in-placed (p ∷ pairs) n = ap (λ more. p ∷ more) (pairs_in-placed pairs n)

-- one more pair, in the first free place
pub placed_more : (pairs : List Pair) (p : Pair) (n : ℕ) → n ≡ length pairs → n < 8 → set (placed pairs) n (Some p) ≡ placed (pairs ++ p ∷ [])
placed_more pairs p n same small =
    let remaining : 8 - length pairs ≡ suc (7 - n) = omega arith in
    let seam : n ≡ length (map Some pairs) = omega (arith, length-map {B = Option Pair} pairs Some) in
    let free : 7 - n ≡ 8 - length (pairs ++ p ∷ []) = omega (arith, length-append pairs (p ∷ [])) in
    ap (λ k. set (map Some pairs ++ replicate k None) n (Some p)) remaining
    ∙ ap (λ k. set (map Some pairs ++ None ∷ replicate (7 - n) None) k (Some p)) seam
    ∙ set-append_seam (map Some pairs) None (replicate (7 - n) None) (Some p)
    ∙ sym (append_assoc (map Some pairs) (Some p ∷ []) (replicate (7 - n) None))
    ∙ ap (λ front. front ++ replicate (7 - n) None) (sym (map-append Some pairs (p ∷ [])))
    ∙ ap (λ k. map Some (pairs ++ p ∷ []) ++ replicate k None) free

-- the places after one more pair, and the pairs in them
pub record IsOneMore (pairs : List Pair) (p : Pair) (places : List (Option Pair)) : Type 0 where
  pub found : pairs_in places ≡ pairs ++ p ∷ []
  pub packed : places ≡ placed (pairs_in places)

pub one_more : (pairs : List Pair) (p : Pair) (n : ℕ) (places : List (Option Pair)) → n ≡ length pairs → n < 8 → places ≡ placed pairs → IsOneMore pairs p (set places n (Some p))
one_more pairs p n places same small here =
    let after : set places n (Some p) ≡ placed (pairs ++ p ∷ []) = ap (λ q. set q n (Some p)) here ∙ placed_more pairs p n same small in
    let found : pairs_in (set places n (Some p)) ≡ pairs ++ p ∷ [] = ap pairs_in after ∙ pairs_in-placed (pairs ++ p ∷ []) _ in
    record { found = found; packed = after ∙ sym (ap placed found) }
