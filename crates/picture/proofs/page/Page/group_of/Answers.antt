use Rattle.std.proofs.Common.{◌++◌, ap, flat_map, refl}
use Rattle.markup.specs.{group, lowering, reading}
use Rattle.picture_layout.specs.{reported_in}
use Rattle.picture.specs.{titles_if}
use Rattle.picture.proofs.Sheetings.{adds, adds_same}
use Rattle.picture.proofs.Reportings.{framed_ends, framed_lines}
use Rattle.picture.proofs.page.Page.group_of.Goals as goal

pub returns-clause-lines : goal.returns-clause-lines
returns-clause-lines c = framed_lines group (reading c.end_group.new.self) (reading c.draw_judged.new.markup) (reading c.lower.new.self) c.new-markup.result (flat_map reported_in c.args.band.now.columns.items ++ titles_if c.args.band.now.verdict) c.in_ok-end_group.ensures.read c.in_ok-draw_judged.ensures.read c.in_ok-lower.ensures.read c.new-markup.ensures

pub returns-clause-ended : goal.returns-clause-ended
returns-clause-ended c = framed_ends group (reading c.end_group.new.self) (reading c.draw_judged.new.markup) (reading c.lower.new.self) c.new-markup.result (flat_map reported_in c.args.band.now.columns.items ++ titles_if c.args.band.now.verdict) c.in_ok-end_group.ensures.read c.in_ok-draw_judged.ensures.read c.in_ok-lower.ensures.read c.new-markup.ensures refl

pub returns-clause-draws : goal.returns-clause-draws
returns-clause-draws c =
    adds _ _ _ _ c.in_ok-end_group.ensures.draws (adds _ _ _ _ c.in_ok-draw_judged.ensures.draws
    (adds_same _ _ _ _ _ c.in_ok-lower.ensures.draws (ap lowering c.saturating_add.ensures) c.new-markup.ensures))
