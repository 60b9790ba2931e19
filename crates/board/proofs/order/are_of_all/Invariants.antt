use Rattle.std.proofs.Common.{◌<◌, ℕ}
use Rattle.board.specs.{IsPlaceOf}
use Rattle.board.proofs.order.are_of_all.Given as goal

-- each process before the present one has a port in the list
abbrev pub invariant-loop-process : goal.invariant-loop-process
invariant-loop-process l = (p : ℕ) → p < l.process → (place : ℕ) × IsPlaceOf l.ports.items p place
