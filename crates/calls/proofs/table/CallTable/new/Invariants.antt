use Rattle.std.proofs.Common.{◌≡◌, map}
use Rattle.std.specs.List.{range_with_len}
use Rattle.calls.specs.{at_rest}
use Rattle.calls.proofs.table.CallTable.new.Given as goal

-- each process so far is at rest
abbrev pub invariant-loop-process : goal.invariant-loop-process
invariant-loop-process l = l.call_states.items ≡ map at_rest (range_with_len 0 l.process)
