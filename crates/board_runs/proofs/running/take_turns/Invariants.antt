use Rattle.board.specs.{AreFirstPortsOf}
use Rattle.board_runs.proofs.running.take_turns.Given as goal

abbrev pub invariant-loop-line : goal.invariant-loop-line
invariant-loop-line l = AreFirstPortsOf l.board l.ports.items
