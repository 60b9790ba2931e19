use Rattle.std.proofs.Common.{◌≡◌, length, map, take}
use Rattle.picture_layout.specs.{first_lanes, seen, seen_accesses}
use Rattle.picture_layout.proofs.layout.lanes.Given as goal

-- the lanes of the processes before the present one
abbrev pub invariant-loop-process : goal.invariant-loop-process
invariant-loop-process l = (take l.process l.lanes ≡ first_lanes l.processes (seen_accesses l.accesses) (map seen l.columns) l.process) × (length l.lanes ≡ 16)
