use Rattle.board.specs.{IsOf, SamePort}
use Rattle.tour.proofs.call.Given as goal

abbrev pub invariant-loop : goal.invariant-loop
invariant-loop g l = record {
  board : IsOf l.board l.port;
  same : SamePort l.fn.port l.port;
}
