use Rattle.std.proofs.Common.{◌≡◌, map}
use Rattle.std.specs.List.{range_with_len}
use Rattle.run_state.specs.{nothing_kept}
use Rattle.run_state.proofs.observed_run.ObservedRun.new.Given as goal

-- nothing is kept of the processes below
abbrev pub invariant-loop-process : goal.invariant-loop-process
invariant-loop-process l = l.kept.items ≡ map nothing_kept (range_with_len 0 l.process)
