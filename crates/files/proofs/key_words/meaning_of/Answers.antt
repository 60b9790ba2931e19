use Rattle.std.proofs.Common.{ap, option_map, ◌∙◌}
use Rattle.files.specs.{KeyWord}
use Rattle.files.proofs.KeyWords.{by_row}
use Rattle.files.proofs.key_words.meaning_of.Goals as goal

pub returns-in-Some : goal.returns-in-Some
returns-in-Some g c = ap (option_map (λ (row : KeyWord g.row.M.Denot). row.1)) c.in-Some.ensures ∙ by_row c.args.word.now c.args.table.now

pub returns-in-None : goal.returns-in-None
returns-in-None g c = ap (option_map (λ (row : KeyWord g.row.M.Denot). row.1)) c.in-None.ensures ∙ by_row c.args.word.now c.args.table.now
