use Rattle.std.proofs.Common.{◌≡◌, ℕ, ◌<◌, Bool, length}
use Rattle.safe_number.specs.{IsWriting}
use Rattle.register_drive.specs.{IsIdle}
use Rattle.register_drive.proofs.drive.write_all.Given as goal

abbrev pub invariant-loop-k : goal.invariant-loop-k
invariant-loop-k l = ((old : ℕ → Bool) × IsWriting l.register old l.value l.run) × (l.run.bit < l.run.width) × (l.run.width ≡ l.fn.width) × IsIdle l.register l.reader × (length l.register ≡ length l.initial.register)
