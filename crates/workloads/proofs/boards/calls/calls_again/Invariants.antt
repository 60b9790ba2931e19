use Rattle.board_runs.specs.board.{IsOf}
use Rattle.workloads.proofs.boards.calls.calls_again.Given as goal

abbrev pub invariant-loop : goal.invariant-loop
invariant-loop l = IsOf l.board l.port
