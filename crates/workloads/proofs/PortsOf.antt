-- The ports that a board was made with.
use Rattle.std.proofs.Common.{◌≡◌, ◌<◌, ℕ, List, Some, length, get_or, ap, sym, ◌∙◌}
use Rattle.std.specs.Prelude.{slice_get}
use Rattle.std.proofs.lemmas.Option.{slice_get-get_or}
use Rattle.board_runs.specs.board.{ArePortsOf, BoardState, IsOf, PortState}

-- each of them is a port of the board
pub each_is_of : (board : BoardState) (ports : List PortState) → ArePortsOf board ports → (k : ℕ) (port : PortState) → slice_get ports k ≡ Some port → IsOf board port
each_is_of board ports are k port at = (are.each k port at).0

-- the port at a position is a port of the board
pub port_is_of : (board : BoardState) (ports : List PortState) → ArePortsOf board ports → (k : ℕ) (port : PortState) → k < length ports → port ≡ get_or ports k port → IsOf board port
port_is_of board ports are k port inside is = each_is_of board ports are k port (slice_get-get_or ports k port inside ∙ ap (λ p. Some p) (sym is))
