use Rattle.board.specs.{IsOf, SamePort}
use Rattle.race.proofs.workers.Worker.take_down.Given as goal

abbrev pub invariant-loop : goal.invariant-loop
invariant-loop g l = record {
  of_board : IsOf l.self.board.now l.port;
  same : SamePort l.fn.port l.port;
}
