use Rattle.std.proofs.Common.{[], ◌++◌, ◌∙◌, ap}
use Rattle.markup.specs.{text_element_by}
use Rattle.markup.specs.declared.names.Tag.TheVariants as tag
use Rattle.picture.proofs.Sheetings.{adds_last, adds_on, adds_other}
use Rattle.picture.proofs.sheets.add_titles.Goals as goal

pub returns-clause-draws : goal.returns-clause-draws
returns-clause-draws c =
    adds_last c.add_text_element-2.result c.args.markup.now _ _ _ _
    (adds_other c.add_text_element-2.result _ _ _ _ c.add_text_element-2.ensures.draws (λ i. text_element_by tag.Desc (c.words-2.ensures i ++ []) (c.description.ensures i)))
    (adds_on c.args.markup.now _ _ _ _ c.in_ok-constant.ensures.draws (c.in_ok-add_text_element.ensures.draws ∙ ap (λ l. c.args.markup.now ++ text_element_by tag.Title l c.args.heading.now) (λ i. c.words.ensures i ++ [])))
