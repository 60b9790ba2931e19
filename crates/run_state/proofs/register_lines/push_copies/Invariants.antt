use Rattle.std.proofs.Common.{◌≡◌, ◌++◌, flat_map}
use Rattle.std.specs.List.{range_with_len}
use Rattle.run_state.specs.{line_of_first, texts_in}
use Rattle.run_state.proofs.register_lines.push_copies.Given as goal

-- the lines of the readers below were written
abbrev pub invariant-loop-reader : goal.invariant-loop-reader
invariant-loop-reader l = l.text.items ≡ l.fn.text.items ++ flat_map (line_of_first l.name (texts_in l.texts)) (range_with_len 0 l.reader)
