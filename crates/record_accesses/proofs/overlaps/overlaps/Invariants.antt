use Rattle.std.proofs.Common.{◌≡◌, length, take}
use Rattle.model.specs.{Past}
use Rattle.record_accesses.specs.{HasOpened, first_overlaps, writer_of}
use Rattle.record_accesses.proofs.overlaps.overlaps.Given as goal

-- the processes below the present one have their places
abbrev pub invariant-loop-process : goal.invariant-loop-process
invariant-loop-process l = record {
  size : length l.overlaps ≡ 16;
  first : (past : Past) → HasOpened l.opened past → l.writer ≡ writer_of l.access past → take l.process l.overlaps ≡ first_overlaps past l.access l.process;
}
