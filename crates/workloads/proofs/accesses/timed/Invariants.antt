use Rattle.std.proofs.Common.{◌≤◌, ℕ, Bool}
use Rattle.model.specs.reader_copies.{IsRow, IsWritten}
use Rattle.register_drive.specs.{IsIdle}
use Rattle.workloads.proofs.accesses.timed.Given as goal

abbrev pub invariant-loop : goal.invariant-loop
invariant-loop g l = IsRow l.register 1728 × ((old : ℕ → Bool) × IsWritten l.register old) × IsIdle l.register 0 × (1728 ≤ l.run.room)
