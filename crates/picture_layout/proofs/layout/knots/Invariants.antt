use Rattle.std.proofs.Common.{◌≡◌, None, drop, map}
use Rattle.picture_layout.specs.{knots_from, seen}
use Rattle.picture_layout.proofs.layout.knots.Given as goal

-- the knots before the present column, and those from there on
abbrev pub invariant-loop-column : goal.invariant-loop-column
invariant-loop-column l = knots_from None (map seen l.columns) ≡ knots_from l.ends (map seen (drop l.column-index l.columns))
