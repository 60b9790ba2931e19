use Rattle.std.proofs.Common.{◌≡◌, drop, map}
use Rattle.picture_layout.specs.{has_column, seen}
use Rattle.picture_layout.proofs.layout.lies_in_lane.Given as goal

-- no column before the present one lies there
abbrev pub invariant-loop-column : goal.invariant-loop-column
invariant-loop-column l = has_column (map seen l.columns) l.process ≡ has_column (map seen (drop l.column-index l.columns)) l.process
