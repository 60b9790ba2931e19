use Rattle.std.proofs.Common.{◌≡◌, ◌+◌, ◌≤◌, ◌++◌, length, None}
use Rattle.files.specs.{lines, lines_read, said_numbers}
use Rattle.files.proofs.reading.read_file.Given as goal

-- reading the remaining lines gives the result of reading all lines
abbrev pub invariant-loop-line : goal.invariant-loop-line
invariant-loop-line g l = record {
  read : lines_read g.T.FromLines.grammar (l.number + 1) l.line-iterator l.read ≡ lines_read g.T.FromLines.grammar 1 (lines l.fn.text) None;
  numbers : l.numbers.items ++ said_numbers (l.number + 1) l.line-iterator ≡ l.fn.numbers.items ++ said_numbers 1 (lines l.fn.text);
  counted : l.number + length l.line-iterator ≡ length (lines l.fn.text);
  few : l.number ≤ 4096;
}
