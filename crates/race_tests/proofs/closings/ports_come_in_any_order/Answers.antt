use Rattle.board.proofs.Orders.{first_are_made, made_moved}
use Rattle.race_tests.proofs.closings.ports_come_in_any_order.Goals as goal

pub close-requires : goal.close-requires
close-requires g c = record {
  ports = made_moved c.in_ok-board.board c.take_turns.new.ports.items c.reverse.new.self.items (first_are_made c.in_ok-board.board c.take_turns.new.ports.items c.take_turns.ensures) c.reverse.ensures.permutation;
}
