use Rattle.std.proofs.Common.{◌≡◌, ◌++◌, flat_map}
use Rattle.std.specs.List.{range_with_len}
use Rattle.model.specs.{Past, fields}
use Rattle.run_state.specs.{CoreShows, lines_of_register}
use Rattle.run_state.proofs.register_lines.push_registers.Given as goal

-- the lines of the processes below were written
abbrev pub invariant-loop-owner : goal.invariant-loop-owner
invariant-loop-owner l = (past : Past) → CoreShows l.core past → l.text.items ≡ l.fn.text.items ++ flat_map (λ owner. flat_map (lines_of_register l.setup past owner) fields) (range_with_len 0 l.owner)
