use Rattle.std.proofs.Common.{◌≡◌, drop}
use Rattle.lock_stages.specs.{first_refusal}
use Rattle.lock_stages.proofs.refusals.first_refusal.Given as goal

-- the refusal is that of the marks from the present one on
abbrev pub invariant-loop-mark : goal.invariant-loop-mark
invariant-loop-mark l = first_refusal l.fn.stage l.is_open l.marks ≡ first_refusal l.at l.is_open (drop l.mark-index l.marks)
