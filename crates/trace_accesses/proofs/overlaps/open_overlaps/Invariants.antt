use Rattle.std.proofs.Common.{◌≡◌, length, take}
use Rattle.trace.specs.{TracePast}
use Rattle.trace_memory.specs.{HasMade}
use Rattle.trace_accesses.specs.{first_overlaps}
use Rattle.trace_accesses.proofs.overlaps.open_overlaps.Given as goal

-- the processes below the present one have their places
abbrev pub invariant-loop-other : goal.invariant-loop-other
invariant-loop-other l = record {
  size : length l.overlaps ≡ 16;
  first : (past : TracePast) → HasMade l.memory past → take l.other l.overlaps ≡ first_overlaps past l.process l.access l.other;
}
