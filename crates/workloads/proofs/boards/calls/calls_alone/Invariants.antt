use Rattle.board_runs.specs.board.{IsOf, SamePort}
use Rattle.workloads.proofs.boards.calls.calls_alone.Given as goal

abbrev pub invariant-loop : goal.invariant-loop
invariant-loop l = record {
  board : IsOf l.board l.port;
  same : SamePort l.fn.port l.port;
}
