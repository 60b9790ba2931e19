use Rattle.std.proofs.Common.{◌++◌, ◌∙◌, ap}
use Rattle.picture.specs.{body_front, page_begun}
use Rattle.picture.proofs.Framing.{on_ok}
use Rattle.picture.proofs.sheets.add_page_front.Goals as goal

pub returns-clause-draws : goal.returns-clause-draws
returns-clause-draws c = on_ok c.begin_body.result (λ is. is ∙ ap (λ l. l ++ body_front c.args.subject c.args.heading.now c.args.printed.now c.args.reads) (c.in_ok-begin_page.ensures.draws ∙ ap (page_begun c.args.processes) c.page_title.ensures)) c.begin_body.ensures.draws

pub returns-clause-lines : goal.returns-clause-lines
returns-clause-lines c = on_ok c.begin_body.result (λ is. is ∙ c.in_ok-begin_page.ensures.lines) c.begin_body.ensures.lines

pub returns-clause-elements : goal.returns-clause-elements
returns-clause-elements c = on_ok c.begin_body.result (λ keeps. keeps c.in_ok-begin_page.ensures.elements) c.begin_body.ensures.elements
