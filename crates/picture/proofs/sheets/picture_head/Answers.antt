use Rattle.std.proofs.Common.{◌∙◌, ap}
use Rattle.picture.specs.{picture_front_by}
use Rattle.picture.proofs.sheets.picture_head.Goals as goal

pub returns-clause-draws : goal.returns-clause-draws
returns-clause-draws c =
    c.in_ok-add_picture_front.ensures.draws ∙ ap (λ l. picture_front_by c.args.subject l c.args.bands c.args.reads) (c.as_slice.ensures.value ∙ c.in_ok-heading.ensures)
