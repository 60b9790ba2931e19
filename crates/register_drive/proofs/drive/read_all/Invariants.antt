use Rattle.std.proofs.Common.{◌≡◌}
use Rattle.register_drive.specs.{ReadsAlong}
use Rattle.register_drive.proofs.drive.read_all.Given as goal

abbrev pub invariant-loop-k : goal.invariant-loop-k
invariant-loop-k l = ReadsAlong l.initial.register l.register l.reader l.fn.width l.run × (l.run.room ≡ l.initial.run.room)
