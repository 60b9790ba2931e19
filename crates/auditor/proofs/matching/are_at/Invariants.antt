use Rattle.std.proofs.Common.{ℕ, take}
use Rattle.auditor.specs.{AreAt, IsCount}
use Rattle.auditor.proofs.matching.are_at.Given as goal

-- the marks before the present one have their position
abbrev pub invariant-loop-mark : goal.invariant-loop-mark
invariant-loop-mark l = (n : ℕ) → IsCount l.taken n → AreAt n (take l.mark-index l.marks)
