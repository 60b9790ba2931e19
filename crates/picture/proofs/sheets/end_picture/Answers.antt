use Rattle.std.proofs.Common.{◌∙◌, ap}
use Rattle.markup.specs.{lowering, opens_in, reading, with_tags}
use Rattle.picture.proofs.Sheetings.{adds, adds_same}
use Rattle.picture.proofs.Framing.{picture_end_read, picture_end_text}
use Rattle.picture.proofs.sheets.end_picture.Goals as goal

pub returns-clause-lines : goal.returns-clause-lines
returns-clause-lines c = (picture_end_read _ _ _ (ap reading c.new-markup.ensures) c.in_ok-lower.ensures.read (c.in_ok-frame.ensures.read ∙ ap (with_tags (opens_in picture_end_text)) c.in_ok-add_legend.ensures.read)).0

pub returns-clause-elements : goal.returns-clause-elements
returns-clause-elements c = (picture_end_read _ _ _ (ap reading c.new-markup.ensures) c.in_ok-lower.ensures.read (c.in_ok-frame.ensures.read ∙ ap (with_tags (opens_in picture_end_text)) c.in_ok-add_legend.ensures.read)).1

pub returns-clause-draws : goal.returns-clause-draws
returns-clause-draws c =
    adds _ _ _ _ c.in_ok-frame.ensures.draws (adds _ _ _ _ c.in_ok-add_legend.ensures.draws
    (adds_same _ _ _ _ _ c.in_ok-lower.ensures.draws (ap lowering c.saturating_add-y.ensures) c.new-markup.ensures))
