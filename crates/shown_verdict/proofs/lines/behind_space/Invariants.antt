use Rattle.std.proofs.Common.{◌≡◌, drop}
use Rattle.shown_verdict.specs.{behind_space}
use Rattle.shown_verdict.proofs.lines.behind_space.Given as goal

-- no byte before the present one is a space
abbrev pub invariant-loop-at : goal.invariant-loop-at
invariant-loop-at l = behind_space (drop l.at l.text) ≡ behind_space l.text
