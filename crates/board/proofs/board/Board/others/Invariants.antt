use Rattle.std.proofs.Common.{◌≡◌, ◌+◌, [], vec_len, vec_capacity}
use Rattle.board.specs.{AreMadeWith, AreOthersIdle, new_view}
use Rattle.board.proofs.board.Board.others.Given as goal

abbrev pub invariant-loop-number : goal.invariant-loop-number
invariant-loop-number l = record {
  board : l.first.table_id ≡ l.self.table_id;
  first : l.first.me ≡ (new_view 0 l.number, []);
  len : vec_len l.ports + 1 ≡ l.number;
  room : vec_capacity l.ports ≡ l.self.setup.processes;
  made_with : AreMadeWith l.self l.ports.items;
  idle : AreOthersIdle l.ports.items;
}
