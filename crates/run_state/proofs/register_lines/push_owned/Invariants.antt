use Rattle.std.proofs.Common.{◌≡◌, ◌++◌, flat_map, take}
use Rattle.model.specs.{Past, fields}
use Rattle.run_state.specs.{CoreShows, lines_of_register}
use Rattle.run_state.proofs.register_lines.push_owned.Given as goal

-- the lines of the first fields were written
abbrev pub invariant-loop-number : goal.invariant-loop-number
invariant-loop-number l = (past : Past) → CoreShows l.core past → l.text.items ≡ l.fn.text.items ++ flat_map (lines_of_register l.setup past l.owner) (take l.number fields)
