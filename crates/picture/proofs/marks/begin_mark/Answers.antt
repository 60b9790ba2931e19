use Rattle.std.proofs.Common.{◌≡◌, [], ◌∷◌, ◌∙◌, ap}
use Rattle.markup.specs.{Mark, drawings, reading, with_mark}
use Rattle.picture_layout.specs.{text_of}
use Rattle.picture.specs.{mark_said, queue_text}
use Rattle.picture.proofs.Sheetings.{adds_other}
use Rattle.picture.proofs.Reportings.{then_same}
use Rattle.picture.proofs.marks.begin_mark.Goals as goal

pub returns-clause-draws : goal.returns-clause-draws
returns-clause-draws c =
    let queue : c.as_bytes.result.now ≡ queue_text c.args.column.now.after = c.as_bytes.ensures.value ∙ c.in_ok-queue.ensures in
    let title : c.as_slice.result.now ≡ text_of c.args.line.now = c.as_slice.ensures.value ∙ c.in_ok-text.ensures in
    adds_other c.mark_line.result _ _ _ _ c.mark_line.ensures.draws (λ i. drawings (Mark (mark_said c.args.column.now.x c.args.line.now c.args.is_last (queue i)) (title i) ∷ []))

pub returns-clause-read : goal.returns-clause-read
returns-clause-read c = then_same c.mark_line.result _ _ _ c.mark_line.ensures.read (ap (λ line. with_mark line (reading c.args.markup.now)) (c.as_slice.ensures.value ∙ c.in_ok-text.ensures))
