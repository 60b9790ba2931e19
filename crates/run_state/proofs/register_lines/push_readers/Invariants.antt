use Rattle.std.proofs.Common.{◌≡◌, ◌++◌, flat_map}
use Rattle.std.specs.List.{range_with_len}
use Rattle.run_state.specs.{reader_if, texts_in}
use Rattle.run_state.proofs.register_lines.push_readers.Given as goal

-- the readers below were written
abbrev pub invariant-loop-reader : goal.invariant-loop-reader
invariant-loop-reader l = l.text.items ≡ l.fn.text.items ++ flat_map (reader_if (texts_in l.texts) l.copy) (range_with_len 0 l.reader)
