use Rattle.draw.specs.{entries_among}
use Rattle.draw.proofs.Written.{if_ok_then}
use Rattle.draw.proofs.drawing.Drawing.opening.Goals as goal

pub returns : goal.returns
returns c =
    if_ok_then c.words.result
    (λ words is view s parts recalls. is view.window s (entries_among parts) recalls.store recalls.before)
    c.words.ensures
