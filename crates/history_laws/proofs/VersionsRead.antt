-- A process that has read all versions knows its own commit bit and the greatest stamp.
use Rattle.std.proofs.Common.{◌≡◌, ◌⊎◌, ℕ, zero, suc, ◌+◌, ◌<◌, ◌≤◌, Bool, false, map, ap, subst, ◌∙◌, arith, inl, inr}
use Rattle.std.specs.Prelude.{max, fold, slice_index_or}
use Rattle.std.specs.List.{range_with_len}
use Rattle.std.proofs.lemmas.Bool.{cases_eq}
use Rattle.plain_store.specs.{Contents, Setup}
use Rattle.model.specs.{Version, newest_stamp, processes, version_of}
use Rattle.laws.proofs.Invariant.{Wires}
use Rattle.history_laws.proofs.Kept.{Kept}
use Rattle.history_laws.proofs.Versions.{Versions, versions_of}

commit_from : (v : Versions) (from n k : ℕ) → k < n → slice_index_or (map (λ (x : Version). x.0) (versions_of v (range_with_len from n))) k false ≡ v.commit (from + k)
commit_from v from zero k below = absurd (omega arith)
commit_from v from (suc n) zero below = ap v.commit (omega arith)
commit_from v from (suc n) (suc k) below = commit_from v (from + 1) n k (omega arith) ∙ ap v.commit (omega arith)

pub commit_read : (s : Setup) (v : Versions) (p : ℕ) → p < s.processes → version_of (versions_of v (processes s)) p ≡ v.commit p
commit_read s v p below = commit_from v 0 s.processes p below ∙ ap v.commit (omega arith)

-- the greatest of some stamps is the count, if none is above it and one is it
stamp_from : (v : Versions) (top from n : ℕ) → top ≤ v.count → ((q : ℕ) → q < from + n → v.stamp q ≤ v.count) → ((top ≡ v.count) ⊎ ((q : ℕ) × (from ≤ q) × (q < from + n) × (v.stamp q ≡ v.count)))
    → fold max top (map (λ (x : Version). x.1) (versions_of v (range_with_len from n))) ≡ v.count
stamp_from v top from zero low most (inl is) = is
stamp_from v top from zero low most (inr one) = absurd (omega (arith, one.1, one.2))
stamp_from v top from (suc n) low most (inl is) =
    let here : v.stamp from ≤ v.count = most from (omega arith) in
    stamp_from v (max top (v.stamp from)) (from + 1) n (omega arith) (λ q below. most q (omega arith)) (inl (omega arith))
stamp_from v top from (suc n) low most (inr one) =
    let here : v.stamp from ≤ v.count = most from (omega arith) in
    elim (cases_eq one.0 from) [
      | inl is ↦ let top_is : v.stamp from ≡ v.count = subst (λ q. v.stamp q ≡ v.count) is one.3 in
          stamp_from v (max top (v.stamp from)) (from + 1) n (omega arith) (λ q below. most q (omega arith)) (inl (omega arith))
      | inr ne ↦ let above : from ≤ one.0 = one.1 in let below_end = one.2 in
          stamp_from v (max top (v.stamp from)) (from + 1) n (omega arith) (λ q below. most q (omega arith)) (inr (one.0, omega arith, omega arith, one.3))
    ]

pub stamp_read : (s : Setup) (v : Versions) (store : Contents) (busy : ℕ → Bool) (m : ℕ → Wires) → Kept s v store busy m → newest_stamp (versions_of v (processes s)) ≡ v.count
stamp_read s v store busy m k = stamp_from v 0 0 s.processes (omega arith) (λ q below. k.most q (omega arith)) (inr (v.newest, omega arith, (let low = k.newest in omega arith), k.is))
