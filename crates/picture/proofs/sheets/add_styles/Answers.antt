use Rattle.std.proofs.Common.{◌∙◌}
use Rattle.picture.proofs.Sheetings.{adds_last, adds_on}
use Rattle.picture.proofs.Reportings.{then_same}
use Rattle.picture.proofs.sheets.add_styles.Goals as goal

pub returns-clause-draws : goal.returns-clause-draws
returns-clause-draws c =
    adds_last c.add_paper.result c.args.markup.now _ _ _ _ c.add_paper.ensures.draws (adds_on c.args.markup.now _ _ _ _ c.in_ok-constant-2.ensures.draws
    (adds_on c.args.markup.now _ _ _ _ c.in_ok-constant.ensures.draws c.in_ok-add_style.ensures.draws))

pub returns-clause-read : goal.returns-clause-read
returns-clause-read c = then_same c.add_paper.result _ _ _ c.add_paper.ensures.read (c.in_ok-constant-2.ensures.read ∙ c.in_ok-constant.ensures.read ∙ c.in_ok-add_style.ensures.read)
