use Rattle.std.proofs.Common.{◌≡◌, drop, map}
use Rattle.picture_layout.specs.{seen}
use Rattle.picture.specs.{next_change}
use Rattle.picture.proofs.waves.change_place.Given as goal

-- none of the columns before the present one changes the row
abbrev pub invariant-loop-place : goal.invariant-loop-place
invariant-loop-place l = next_change l.row l.end (map seen (drop l.first l.columns)) ≡ next_change l.row l.end (map seen (drop l.place l.columns))
