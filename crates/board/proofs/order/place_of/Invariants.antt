use Rattle.std.proofs.Common.{◌<◌, ℕ}
use Rattle.board.specs.{IsPlaceOf}
use Rattle.board.proofs.order.place_of.Given as goal

-- no index before this one has the port
abbrev pub invariant-loop-place : goal.invariant-loop-place
invariant-loop-place l = (k : ℕ) → k < l.place → IsPlaceOf l.ports.items l.process k → ⊥
