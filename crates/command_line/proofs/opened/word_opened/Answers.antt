use Rattle.std.proofs.Common.{ap, refl, filter, map, ◌∙◌}
use Rattle.files.specs.{is_said, words_of}
use Rattle.files.proofs.Ends.{lines_agree}
use Rattle.command_line.specs.{word_opened}
use Rattle.command_line.proofs.opened.word_opened.Goals as goal

pub loop-line-init : goal.loop-line-init
loop-line-init c = record {
  none = refl;
  rest = ap (λ ls. word_opened (filter is_said (map words_of ls))) (c.into_iter-line-iterator.ensures.into_iter_gives ∙ c.lines-line-items.ensures.value ∙ lines_agree c.args.text.now);
}
