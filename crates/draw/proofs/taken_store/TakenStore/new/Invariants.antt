use Rattle.std.proofs.Common.{◌≡◌, ◌≤◌, replicate}
use Rattle.draw.specs.{no_call}
use Rattle.draw.proofs.taken_store.TakenStore.new.Given as goal

-- each process so far has called nothing
abbrev pub invariant-loop-process : goal.invariant-loop-process
invariant-loop-process l = record {
  calls : l.calls.items ≡ replicate l._process no_call;
  within : l._process ≤ l.setup.processes;
}
