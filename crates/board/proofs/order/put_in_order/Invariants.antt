use Rattle.std.specs.Prelude.{IsPermutation}
use Rattle.board.proofs.Orders.{ArePlaced}
use Rattle.board.proofs.order.put_in_order.Given as goal

-- the ports of the processes before the present one are at their indexes
abbrev pub invariant-loop-process : goal.invariant-loop-process
invariant-loop-process l = record {
  moved : IsPermutation l.fn.ports.items l.ports.items;
  placed : ArePlaced l.process l.ports.items;
}
