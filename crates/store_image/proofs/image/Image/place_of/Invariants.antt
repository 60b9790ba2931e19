use Rattle.std.proofs.Common.{◌≡◌, ◌+◌, drop}
use Rattle.store_image.specs.{place_of}
use Rattle.store_image.proofs.image.Image.place_of.Given as goal

-- the number of places before this one, and the place in the rest
abbrev pub invariant-loop-place : goal.invariant-loop-place
invariant-loop-place l = l.place + place_of (drop l.place l.self.pairs) l.name ≡ place_of l.self.pairs l.name
