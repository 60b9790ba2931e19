use Rattle.std.proofs.Common.{◌≡◌, ℕ, ◌<◌, slice_index_or}
use Rattle.model.specs.{Mark, placed}
use Rattle.auditor.proofs.matching.are_alike.Given as goal

-- the marks before the present one are equal, except for positions
abbrev pub invariant-loop-at : goal.invariant-loop-at
invariant-loop-at l = (k : ℕ) (d : Mark) → k < l.at → placed 0 (slice_index_or l.marks k d) ≡ placed 0 (slice_index_or l.others k d)
