use Rattle.board_runs.specs.board.{IsOf}
use Rattle.workloads.proofs.boards.calls.steps_of_a_call.Given as goal

abbrev pub invariant-loop-before : goal.invariant-loop-before
invariant-loop-before l = IsOf l.board l.port
