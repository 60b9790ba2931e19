use Rattle.std.proofs.Common.{ap, take, ◌∙◌}
use Rattle.std.proofs.lemmas.List.{take_min}
use Rattle.std.specs.Option.{unwrap_or}
use Rattle.files.specs.{input_limit, said_words}
use Rattle.command_line.specs.{word_opened}
use Rattle.command_line.specs.declared.first_word.FirstWord.TheVariants.{Other}
use Rattle.command_line.proofs.opened.word_of_front.Goals as goal

pub returns-clause-value : goal.returns-clause-value
returns-clause-value c =
    c.unwrap_or.ensures ∙ ap (λ o. unwrap_or o Other) (c.in_ok-word_opened.ensures.value ∙ ap (λ t. word_opened (said_words t)) (ap (λ n. take n c.args.front.now) c.min.ensures ∙ take_min input_limit c.args.front.now))
