-- The newest committed version is the history's: the greatest stamp is the number of changes, and the lowest process with it is the history's newest one.
use Rattle.std.proofs.Common.{◌≡◌, ℕ, zero, suc, ◌+◌, ◌<◌, ◌≤◌, ◌==◌, max, Bool, true, false, cond, List, [], ◌∷◌, map, fold, get_or, refl, ap, ◌∙◌, arith, eq-eqb, eqb-true, ne_eqb}
use Rattle.std.proofs.lemmas.Bool.{eqb-false}
use Rattle.std.proofs.lemmas.List.FromFn.{get_or-map-range_with_len}
use Rattle.std.specs.List.{range_with_len}
use Rattle.plain_store.specs.{Contents, Setup}
use Rattle.model.specs.{Version, greatest, index_of, newest_process, newest_stamp, processes, version_of}
use Rattle.history_laws.proofs.Kept.{Kept}
use Rattle.history_laws.proofs.Versions.{Versions, versions_of}
use Rattle.laws.proofs.Invariant.{Wires}
use Rattle.laws.proofs.Tickets.{above as begun_with}

-- the stamps and the commit bits of some processes' versions
stamps_of : (v : Versions) (qs : List ℕ) → map (λ (x : Version). x.1) (versions_of v qs) ≡ map v.stamp qs
stamps_of v [] = refl
stamps_of v (q ∷ qs) = ap (λ xs. v.stamp q ∷ xs) (stamps_of v qs)

commits_of : (v : Versions) (qs : List ℕ) → map (λ (x : Version). x.0) (versions_of v qs) ≡ map v.commit qs
commits_of v [] = refl
commits_of v (q ∷ qs) = ap (λ xs. v.commit q ∷ xs) (commits_of v qs)

-- none of these numbers is above the top, so neither is the greatest
not_above : (f : ℕ → ℕ) (top a from n : ℕ) → ((q : ℕ) → q < from + n → f q ≤ top) → a ≤ top → fold max a (map f (range_with_len from n)) ≤ top
not_above f top a from zero most low = low
not_above f top a from (suc n) most low =
    let here = most from (omega arith) in
    let up : max a (f from) ≤ top = grind (arith, low, here) in
    not_above f top (max a (f from)) (from + 1) n (λ q less. most q (omega (arith, less))) up

-- one of them is the top, so the greatest is not below it
not_below : (f : ℕ → ℕ) (top a from n j : ℕ) → from ≤ j → j < from + n → f j ≡ top → top ≤ fold max a (map f (range_with_len from n))
not_below f top a from zero j low less is = absurd (omega (arith, low, less))
not_below f top a from (suc n) j low less is = go (from == j) refl (λ other. not_below f top (max a (f from)) (from + 1) n j other (omega (arith, less)) is)
  where
    rest : ℕ
    rest = fold max (max a (f from)) (map f (range_with_len (from + 1) n))

    go : (b : Bool) → (from == j) ≡ b → (from + 1 ≤ j → top ≤ rest) → top ≤ rest
    go true e later =
        let same : f from ≡ top = ap f (eqb-true from j e) ∙ is in
        let grows = begun_with (max a (f from)) (map f (range_with_len (from + 1) n)) in
        grind (arith, same, grows)
    go false e later = let apart = eqb-false from j e in later (omega (arith, low, apart))

-- the first one that is the top
place_is : (f : ℕ → ℕ) (top from n j : ℕ) → from ≤ j → j < from + n → f j ≡ top → ((q : ℕ) → q < j → f q < top) → from + index_of top (map f (range_with_len from n)) ≡ j
place_is f top from zero j low less is first = absurd (omega (arith, low, less))
place_is f top from (suc n) j low less is first = go (from == j) refl (λ other. place_is f top (from + 1) n j other (omega (arith, less)) is first)
  where
    rest : ℕ
    rest = index_of top (map f (range_with_len (from + 1) n))

    go : (b : Bool) → (from == j) ≡ b → (from + 1 ≤ j → from + 1 + rest ≡ j) → from + cond (f from == top) 0 (1 + rest) ≡ j
    go true e later =
        let here : from ≡ j = eqb-true from j e in
        ap (λ b. from + cond b 0 (1 + rest)) (eq-eqb (f from) top (ap f here ∙ is)) ∙ omega (arith, here)
    go false e later =
        let apart = eqb-false from j e in
        let other : from + 1 ≤ j = omega (arith, low, apart) in
        let small = first from (omega (arith, other)) in
        let next = later other in
        ap (λ b. from + cond b 0 (1 + rest)) (ne_eqb (f from) top (λ same. omega (arith, small, same))) ∙ omega (arith, next)

-- the greatest stamp is the number of changes
pub newest_stamp_is : (s : Setup) (v : Versions) (store : Contents) (busy : ℕ → Bool) (m : ℕ → Wires) → Kept s v store busy m → newest_stamp (versions_of v (processes s)) ≡ v.count
newest_stamp_is s v store busy m kept =
    let below = kept.newest in
    let high = not_above v.stamp v.count 0 0 s.processes (λ q less. kept.most q (omega (arith, less))) (omega arith) in
    let low = not_below v.stamp v.count 0 0 s.processes v.newest (omega arith) (omega (arith, below)) kept.is in
    ap greatest (stamps_of v (processes s)) ∙ omega (arith, high, low)

-- the lowest process that has it is the newest one
pub newest_process_is : (s : Setup) (v : Versions) (store : Contents) (busy : ℕ → Bool) (m : ℕ → Wires) → Kept s v store busy m → newest_process (versions_of v (processes s)) ≡ v.newest
newest_process_is s v store busy m kept =
    let below = kept.newest in
    let here = place_is v.stamp v.count 0 s.processes v.newest (omega arith) (omega (arith, below)) kept.is kept.first in
    (λ i. index_of (newest_stamp_is s v store busy m kept i) (stamps_of v (processes s) i)) ∙ omega (arith, here)

-- the commit bit of each process
pub version_of_is : (s : Setup) (v : Versions) (q : ℕ) → q < s.processes → version_of (versions_of v (processes s)) q ≡ v.commit q
version_of_is s v q below = ap (λ xs. get_or xs q false) (commits_of v (processes s)) ∙ get_or-map-range_with_len v.commit 0 s.processes q q false below (omega arith)
