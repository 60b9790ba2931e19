use Rattle.std.proofs.Common.{◌≡◌, drop, fold}
use Rattle.lock_stages.specs.{marked, process_state_after}
use Rattle.lock_stages.proofs.states.ProcessState.take.Given as goal

-- the marks from the present one on are left
abbrev pub invariant-loop-mark : goal.invariant-loop-mark
invariant-loop-mark l = process_state_after l.entry l.accesses l.marks l.fn.self ≡ fold (marked l.entry) l.self (drop l.mark-index l.marks)
