use Rattle.std.proofs.Common.{[], ◌++◌, ◌∙◌, ap}
use Rattle.markup.specs.{entering_by, said_text}
use Rattle.markup.specs.declared.names.Key.TheVariants as key
use Rattle.markup.specs.declared.names.Tag.TheVariants as tag
use Rattle.picture.specs.{view_of}
use Rattle.picture.proofs.Sheetings.{adds_other}
use Rattle.picture.proofs.sheets.enter_legend.Goals as goal

pub returns-clause-draws : goal.returns-clause-draws
returns-clause-draws c =
    let view = c.words.ensures ∙ ap (λ l. said_text (key.ViewBox, l)) (c.as_bytes.ensures.value ∙ c.in_ok-view.ensures ∙ ap view_of c.legend_height.ensures) in
    adds_other c.enter.result _ _ _ _ c.enter.ensures.draws
    (ap (entering_by tag.Svg) (λ i. view i ++ (c.words-2.ensures i ++ (c.words-3.ensures i ++ []))))
