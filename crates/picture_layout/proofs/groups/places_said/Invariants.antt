use Rattle.std.proofs.Common.{◌≡◌, take}
use Rattle.picture_layout.specs.{group_of, places_from}
use Rattle.picture_layout.proofs.groups.places_said.Given as goal

-- the indexes before the present one at which the list is true
abbrev pub invariant-loop-place : goal.invariant-loop-place
invariant-loop-place l = l.group ≡ group_of (places_from 0 (take l.place l.said))
