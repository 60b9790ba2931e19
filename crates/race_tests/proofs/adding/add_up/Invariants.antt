use Rattle.board.specs.{IsOf, SamePort}
use Rattle.race_tests.proofs.adding.add_up.Given as goal

abbrev pub invariant-loop : goal.invariant-loop
invariant-loop l = record {
  board : IsOf l.board l.port;
  same : SamePort l.fn.port l.port;
}
