use Rattle.std.proofs.Common.{◌≡◌, ◌≤◌, drop, map}
use Rattle.picture_layout.specs.{room_below_of, seen}
use Rattle.picture_layout.proofs.Lists.{room_left}
use Rattle.picture_layout.proofs.layout.room_below.Given as goal

-- the height that all columns need is that of the columns from the present one on, or is needed already
abbrev pub invariant-loop-column : goal.invariant-loop-column
invariant-loop-column l = (room_below_of (map seen l.columns) ≡ room_left l.room (map seen (drop l.column-index l.columns))) × (l.room ≤ 14)
