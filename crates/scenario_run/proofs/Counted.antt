-- The lower bound on how many of each process's next Steps are within a register access, from Step to Step.
use Rattle.std.proofs.Common.{◌≡◌, ◌<◌, ◌≤◌, ℕ, suc, List, replicate, set, slice_index, ap, ◌∙◌, arith, inl, inr}
use Rattle.std.proofs.lemmas.Bool.{cases_eq}
use Rattle.std.proofs.lemmas.List.{get_or-replicate, get_or-set_other, get_or-set_same, length-replicate, length-set}
use Rattle.world.specs.{KeepOthers, Seat, remaining_in}
use Rattle.scenario_run.specs.{IsCounted}

-- the bound is 0 for each process at first
pub none_known : (seats : List Seat) → IsCounted (replicate 256 1) seats
none_known seats = record { all = length-replicate {A = ℕ} 256 1; some = λ p inside. let is = one p inside in omega (arith, is); known = λ p inside. let is = one p inside in omega (arith, is) }
  where
    one : (p : ℕ) → p < 256 → slice_index (replicate 256 1) p ≡ 1
    one p inside = get_or-replicate 256 p 1 0 inside

-- the bound after a Step of p, of which at least `quiet` - 1 next Steps are within a register access
pub counted_put : (within : List ℕ) (p quiet : ℕ) (old new : List Seat) → IsCounted within old → 0 < quiet → quiet ≤ suc (remaining_in new p) → KeepOthers old p new → IsCounted (set within p quiet) new
counted_put within p quiet old new counted some few others = record { all = length-set within p quiet ∙ counted.all; some = λ q inside. (by q inside).0; known = λ q inside. (by q inside).1 }
  where
    by : (q : ℕ) → q < 256 → (0 < slice_index (set within p quiet) q) × (slice_index (set within p quiet) q ≤ suc (remaining_in new q))
    by q inside = elim (cases_eq q p) [
      | inl is ↦
          let here : slice_index (set within p quiet) q ≡ slice_index (set within p quiet) p = ap (slice_index (set within p quiet)) is in
          let put : slice_index (set within p quiet) p ≡ quiet = get_or-set_same within p quiet 0 (omega (arith, is, inside, counted.all)) in
          let same : remaining_in new q ≡ remaining_in new p = ap (remaining_in new) is in
          (omega (arith, here, put, some), omega (arith, here, put, same, few))
      | inr apart ↦
          let other : slice_index (set within p quiet) q ≡ slice_index within q = get_or-set_other within p q quiet 0 apart in
          let more = others q apart in
          let was = counted.some q inside in
          let before = counted.known q inside in
          (omega (arith, other, was), omega (arith, other, more, before))
    ]
