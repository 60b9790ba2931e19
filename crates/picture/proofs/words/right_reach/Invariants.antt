use Rattle.std.proofs.Common.{◌≡◌, ◌≤◌, drop, max}
use Rattle.picture.specs.{lines_reach}
use Rattle.picture.proofs.words.right_reach.Given as goal

-- the signs before the present line reach farthest, or those from there on
abbrev pub invariant-loop-line : goal.invariant-loop-line
invariant-loop-line l = (lines_reach l.column.lines.items ≡ max l.reach (lines_reach (drop l.line-index l.column.lines.items))) × (1 ≤ l.reach)
