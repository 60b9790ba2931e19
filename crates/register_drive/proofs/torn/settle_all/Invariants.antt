use Rattle.std.proofs.Common.{◌≡◌, ℕ, ◌<◌, Bool, length}
use Rattle.reader_copies.specs.{IsRow, settled_at}
use Rattle.safe_number.specs.{IsSettling}
use Rattle.register_drive.specs.{IsIdle}
use Rattle.register_drive.proofs.torn.settle_all.Given as goal

abbrev pub invariant-loop-k : goal.invariant-loop-k
invariant-loop-k l =
    IsRow l.register l.fn.width
    × ((others : ℕ → Bool) × IsSettling l.register others l.bit l.torn)
    × ((others : ℕ → Bool) → IsSettling l.initial.register others l.bit l.initial.torn → IsSettling l.register others l.bit l.torn)
    × (settled_at l.torn l.value ≡ l.value) × (l.torn.reader < length l.register) × IsIdle l.register l.reader × (length l.register ≡ length l.initial.register)
