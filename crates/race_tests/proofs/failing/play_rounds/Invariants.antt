use Rattle.board.specs.{IsOf, SamePort}
use Rattle.race_tests.proofs.failing.play_rounds.Given as goal

abbrev pub invariant-loop-round : goal.invariant-loop-round
invariant-loop-round l = record {
  board : IsOf l.board l.port;
  same : SamePort l.fn.port l.port;
}
