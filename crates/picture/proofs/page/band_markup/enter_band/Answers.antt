use Rattle.std.proofs.Common.{◌++◌, ap, codes, ◌∙◌}
use Rattle.std.specs.Fmt.{decimal}
use Rattle.markup.specs.{entering_by, said_text}
use Rattle.markup.specs.declared.names.Key.TheVariants as key
use Rattle.markup.specs.declared.names.Tag.TheVariants as tag
use Rattle.picture.specs.{view_of}
use Rattle.picture.proofs.Sheetings.{adds_other, four_said}
use Rattle.picture.proofs.page.band_markup.enter_band.Goals as goal

pub returns-clause-draws : goal.returns-clause-draws
returns-clause-draws c =
    adds_other c.enter.result _ _ _ _ c.enter.ensures.draws
    (ap (entering_by tag.Svg) (four_said c.class.result c.words.result c.words-2.result c.words-3.result (key.Class, codes "band") (key.ViewBox, view_of c.args.height) (key.Role, codes "group") (key.Label, codes "Part " ++ (decimal c.args.number ++ codes " of the run")) c.class.ensures
    (c.words.ensures ∙ ap (λ l. said_text (key.ViewBox, l)) (c.as_bytes.ensures.value ∙ c.in_ok-view.ensures ∙ ap view_of c.from.ensures)) c.words-2.ensures
    (c.words-3.ensures ∙ ap (λ l. said_text (key.Label, l)) (c.as_bytes-2.ensures.value ∙ c.in_ok-label.ensures.ok))))
