use Rattle.std.proofs.Common.{◌≡◌, ◌<◌, ℕ, Some}
use Rattle.std.specs.Prelude.{slice_get}
use Rattle.board.specs.{IsStill, PortState}
use Rattle.board.proofs.closing.are_quiet.Given as goal

abbrev pub invariant-loop-port : goal.invariant-loop-port
invariant-loop-port l = (k : ℕ) (port : PortState) → k < l.port-index → slice_get l.ports.items k ≡ Some port → IsStill port.setup port.view.own
