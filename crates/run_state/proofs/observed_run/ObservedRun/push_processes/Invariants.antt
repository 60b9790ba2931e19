use Rattle.std.proofs.Common.{◌≡◌, ◌++◌, flat_map}
use Rattle.std.specs.List.{range_with_len}
use Rattle.model.specs.{Past}
use Rattle.run_state.specs.{HasObservedWorld, process_lines}
use Rattle.run_state.proofs.observed_run.ObservedRun.push_processes.Given as goal

-- the lines of those below were written
abbrev pub invariant-loop-process : goal.invariant-loop-process
invariant-loop-process l = (past : Past) → HasObservedWorld l.self l.core l.history past → l.text.items ≡ l.fn.text.items ++ flat_map (process_lines l.self.setup past) (range_with_len 0 l.process)
