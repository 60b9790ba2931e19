use Rattle.std.proofs.Common.{◌≡◌, ◌≤◌, length}
use Rattle.files.specs.{words_of}
use Rattle.trace_file.proofs.lines.next_word.Given as goal

-- the bytes that remain have the same words
abbrev pub invariant-words : goal.invariant-words
invariant-words l = record {
  same : words_of l.rest ≡ words_of l.line;
  within : length l.rest ≤ length l.line;
}

abbrev pub decreases-words : goal.decreases-words
decreases-words l = length l.rest
