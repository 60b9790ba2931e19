use Rattle.std.proofs.Common.{◌≡◌, drop, map}
use Rattle.picture_layout.specs.{event_position, seen}
use Rattle.picture_layout.proofs.placing.event_place.Given as goal

-- the event lies after the column before the present one
abbrev pub invariant-loop-column : goal.invariant-loop-column
invariant-loop-column l = event_position l.event (52, l.before_at) (map seen l.columns) ≡ event_position l.event (l.left, l.at) (map seen (drop l.column-index l.columns))
