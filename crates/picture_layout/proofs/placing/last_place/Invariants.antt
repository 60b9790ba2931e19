use Rattle.std.proofs.Common.{◌≡◌, map, take}
use Rattle.picture_layout.specs.{last_of, seen}
use Rattle.picture_layout.proofs.placing.last_place.Given as goal

-- the position of the column before the present one
abbrev pub invariant-loop-column : goal.invariant-loop-column
invariant-loop-column l = l.last ≡ last_of (map seen (take l.column-index l.columns))
