use Rattle.std.proofs.Common.{◌≡◌, ◌++◌, drop}
use Rattle.trace_engine.specs.{pair_lines}
use Rattle.trace_engine.proofs.reason_lines.push_pairs.Given as goal

-- the text so far, followed by the remaining lines, is the old text followed by all lines
abbrev pub invariant-entries : goal.invariant-entries
invariant-entries l = record {
  text : l.text.items ++ pair_lines l.word l.process (drop l.entry-index l.entries) ≡ l.fn.text.items ++ pair_lines l.word 0 l.entries;
  at : l.process ≡ l.entry-index;
}
