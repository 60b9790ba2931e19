use Rattle.std.proofs.Common.{◌≡◌, ℕ, ◌<◌, Bool, length}
use Rattle.safe_number.specs.{IsWriting}
use Rattle.register_drive.specs.{IsIdle}
use Rattle.register_drive.proofs.torn.write_some.Given as goal

abbrev pub invariant-loop : goal.invariant-loop
invariant-loop l =
    ((old : ℕ → Bool) × IsWriting l.register old l.value l.run)
    × ((old : ℕ → Bool) → IsWriting l.initial.register old l.value l.initial.run → IsWriting l.register old l.value l.run)
    × (l.run.bit < l.run.width) × (l.run.width ≡ l.initial.run.width) × IsIdle l.register l.reader × (length l.register ≡ length l.initial.register)
