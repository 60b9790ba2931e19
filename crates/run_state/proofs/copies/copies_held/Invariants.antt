use Rattle.std.proofs.Common.{◌≡◌, length, map}
use Rattle.std.specs.List.{range_with_len}
use Rattle.model.specs.{Past}
use Rattle.calls.specs.world.{cells_held}
use Rattle.calls.specs.world.process.registers.{copy_bytes}
use Rattle.run_state.specs.{CoreShows}
use Rattle.run_state.proofs.copies.copies_held.Given as goal

-- the copies of the readers below
abbrev pub invariant-loop-reader : goal.invariant-loop-reader
invariant-loop-reader l = record {
  length : length l.copies.items ≡ l.reader;
  copies : (past : Past) → CoreShows l.core past → l.copies.items ≡ map (λ reader. copy_bytes (cells_held l.setup past l.register reader)) (range_with_len 0 l.reader);
}
