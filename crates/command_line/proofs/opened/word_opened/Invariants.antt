use Rattle.std.proofs.Common.{◌≡◌, filter, map, None}
use Rattle.files.specs.{is_said, said_words, words_of}
use Rattle.command_line.specs.{word_opened}
use Rattle.command_line.proofs.opened.word_opened.Given as goal

-- all lines so far were skipped, so the lines to come determine the same word as all lines
abbrev pub invariant-loop-line : goal.invariant-loop-line
invariant-loop-line l = record {
  none : l.first ≡ None;
  rest : word_opened (filter is_said (map words_of l.line-iterator)) ≡ word_opened (said_words l.fn.text);
}
