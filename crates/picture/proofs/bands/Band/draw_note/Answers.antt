use Rattle.std.proofs.Common.{◌∙◌}
use Rattle.markup.specs.{reading}
use Rattle.picture_layout.specs.{text_of}
use Rattle.picture.proofs.Reportings.{then_ends}
use Rattle.picture.proofs.bands.Band.draw_note.Goals as goal

pub returns-clause-read : goal.returns-clause-read
returns-clause-read c =
    then_ends c.end_group.result (reading c.args.markup.now) _ _ (text_of c.args.line.now) c.end_group.ensures.read
    (c.in_ok-draw_rows.ensures.read ∙ c.in_ok-draw_sign.ensures.read ∙ c.in_ok-line.ensures.read ∙ c.in_ok-begin_mark.ensures.read)
