use Rattle.std.proofs.Common.{◌∙◌, ap}
use Rattle.picture.specs.{page_front_by}
use Rattle.picture.proofs.sheets.page_head.Goals as goal

pub returns-clause-draws : goal.returns-clause-draws
returns-clause-draws c =
    c.in_ok-add_page_front.ensures.draws ∙ ap (λ l. page_front_by c.args.subject c.args.setup.now.processes l c.args.printed.now c.args.reads) (c.as_slice.ensures.value ∙ c.in_ok-heading.ensures)
