use Rattle.std.proofs.Common.{◌≡◌, drop}
use Rattle.model.specs.{called_in}
use Rattle.calls.proofs.call_state.called_in.Given as goal

-- the marks so far begin no call
abbrev pub invariant-loop-mark : goal.invariant-loop-mark
invariant-loop-mark l = called_in l.marks ≡ called_in (drop l.mark-index l.marks)
