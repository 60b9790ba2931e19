use Rattle.std.proofs.Common.{◌≡◌, drop}
use Rattle.calls.specs.{marked_all}
use Rattle.calls.proofs.call_state.CallState.mark_all.Given as goal

-- the remaining marks lead to the final state
abbrev pub invariant-loop-mark : goal.invariant-loop-mark
invariant-loop-mark l = marked_all l.number l.fn.self l.marks ≡ marked_all l.number l.self (drop l.mark-index l.marks)
