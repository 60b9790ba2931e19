use Rattle.board.specs.{IsOf, SamePort}
use Rattle.board_runs.proofs.running.carry_out_own.Given as goal

abbrev pub invariant-loop-line : goal.invariant-loop-line
invariant-loop-line l = record {
  board : IsOf l.board l.port;
  same : SamePort l.fn.port l.port;
}
