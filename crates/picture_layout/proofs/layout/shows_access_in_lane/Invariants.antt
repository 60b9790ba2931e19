use Rattle.std.proofs.Common.{◌≡◌, drop, map}
use Rattle.picture_layout.specs.{seen, shows_access}
use Rattle.picture_layout.proofs.layout.shows_access_in_lane.Given as goal

-- no column before the present one shows an access in the lane
abbrev pub invariant-loop-column : goal.invariant-loop-column
invariant-loop-column l = shows_access (map seen l.columns) l.process ≡ shows_access (map seen (drop l.column-index l.columns)) l.process
