use Rattle.std.proofs.Common.{◌≡◌, drop}
use Rattle.model.specs.{reply_taken}
use Rattle.run_state.proofs.record_observing.reply_in.Given as goal

-- no mark so far takes a command
abbrev pub invariant-loop-mark : goal.invariant-loop-mark
invariant-loop-mark l = reply_taken l.marks ≡ reply_taken (drop l.mark-index l.marks)
