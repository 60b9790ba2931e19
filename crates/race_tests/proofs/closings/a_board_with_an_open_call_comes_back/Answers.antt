use Rattle.board.proofs.Orders.{first_are_made}
use Rattle.race_tests.proofs.closings.a_board_with_an_open_call_comes_back.Goals as goal

pub close-requires : goal.close-requires
close-requires g c = record { ports = first_are_made c.in_ok-board.board c.take_turns.new.ports.items c.take_turns.ensures }
