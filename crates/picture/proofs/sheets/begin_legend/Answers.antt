use Rattle.std.proofs.Common.{◌∙◌, ap, codes}
use Rattle.markup.specs.{with_begun}
use Rattle.picture.proofs.Sheetings.{adds_last, adds_on}
use Rattle.picture.proofs.Reportings.{then_same}
use Rattle.picture.proofs.sheets.begin_legend.Goals as goal

pub returns-clause-draws : goal.returns-clause-draws
returns-clause-draws c =
    adds_last c.add_legend.result c.args.markup.now _ _ _ _ c.add_legend.ensures.draws (adds_on c.args.markup.now _ _ _ _ c.in_ok-add_patterns.ensures.draws (adds_on c.args.markup.now _ _ _ _ c.in_ok-constant-2.ensures.draws
    (adds_on c.args.markup.now _ _ _ _ c.in_ok-enter_legend.ensures.draws c.in_ok-constant.ensures.draws)))

pub returns-clause-read : goal.returns-clause-read
returns-clause-read c = then_same c.add_legend.result _ _ _ c.add_legend.ensures.read
    (c.in_ok-add_patterns.ensures.read ∙ c.in_ok-constant-2.ensures.read ∙ c.in_ok-enter_legend.ensures.read ∙ ap (with_begun (codes "svg")) c.in_ok-constant.ensures.read)
