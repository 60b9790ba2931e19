use Rattle.std.proofs.Common.{[], ◌++◌, ◌∙◌, ap}
use Rattle.markup.specs.{empty_element_by, text_element_by}
use Rattle.markup.specs.declared.names.Tag.TheVariants as tag
use Rattle.picture.proofs.Sheetings.{adds_last, adds_on}
use Rattle.picture.proofs.sheets.add_ground.Goals as goal

pub returns-clause-draws : goal.returns-clause-draws
returns-clause-draws c =
    adds_last c.constant.result c.args.markup.now _ _ _ _ c.constant.ensures.draws
    (adds_on c.args.markup.now _ _ _ _
    (c.in_ok-add_text_element.ensures.draws ∙ ap (λ l. c.add_empty_element.new.self ++ text_element_by tag.Text l c.args.heading.now) (λ i. c.number-3.ensures i ++ (c.number-4.ensures i ++ (c.class.ensures i ++ []))))
    (c.in_ok-add_empty_element.ensures.draws ∙ ap (λ l. c.args.markup.now ++ empty_element_by tag.Rect l) (λ i. c.number.ensures i ++ (c.number-2.ensures i ++ (c.words.ensures i ++ [])))))
