use Rattle.std.proofs.Common.{◌≡◌, Some, subst, sym}
use Rattle.std.specs.Prelude.{option_to_list, slice_get}
use Rattle.board.proofs.PortLists.{at_front}
use Rattle.race_tests.proofs.closings.a_board_without_a_port_comes_back.Goals as goal

pub close-requires : goal.close-requires
close-requires g c = let made = c.in_ok-board.ensures.ports in record {
  ports = λ k port e. (made.each k port (subst (λ xs. slice_get xs k ≡ Some port) (sym c.pop-one.ensures.items) (at_front c.pop-one.new.self.items (option_to_list c.pop-one.result) k port e))).0;
}
