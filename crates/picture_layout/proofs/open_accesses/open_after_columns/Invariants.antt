use Rattle.std.proofs.Common.{◌≡◌, length, map, take}
use Rattle.picture_layout.specs.{first_open, seen}
use Rattle.picture_layout.proofs.open_accesses.open_after_columns.Given as goal

-- the open accesses of the processes before the present one
abbrev pub invariant-loop-process : goal.invariant-loop-process
invariant-loop-process l = (take l.process l.after ≡ first_open l.before (map seen l.columns) l.process) × (length l.after ≡ 16)
