use Rattle.std.proofs.Common.{◌∙◌, ap, codes}
use Rattle.markup.specs.{opens_in, reading, with_begun, with_tags}
use Rattle.picture.proofs.Framing.{body_elements, body_lines, list_end_text, on_ok}
use Rattle.picture.proofs.Sheetings.{adds_last, adds_on}
use Rattle.picture.proofs.sheets.begin_body.Goals as goal

pub returns-clause-lines : goal.returns-clause-lines
returns-clause-lines c = body_lines c.args.subject c.frame.result (reading c.args.markup.now) _ _ _
    (c.in_ok-begin_legend.ensures.read ∙ ap (with_begun (codes "svg")) c.in_ok-add_text_element.ensures.read) c.in_ok-begin_list.ensures.read
    (on_ok c.frame.result (λ is. is ∙ ap (with_tags (opens_in list_end_text)) c.in_ok-list_lines.ensures.read) c.frame.ensures.read)

pub returns-clause-elements : goal.returns-clause-elements
returns-clause-elements c = body_elements c.args.subject c.frame.result (reading c.args.markup.now) _ _ _
    (c.in_ok-begin_legend.ensures.read ∙ ap (with_begun (codes "svg")) c.in_ok-add_text_element.ensures.read) c.in_ok-begin_list.ensures.read
    (on_ok c.frame.result (λ is. is ∙ ap (with_tags (opens_in list_end_text)) c.in_ok-list_lines.ensures.read) c.frame.ensures.read)

pub returns-clause-draws : goal.returns-clause-draws
returns-clause-draws c =
    adds_last c.frame.result c.args.markup.now _ _ _ _ c.frame.ensures.draws (adds_on c.args.markup.now _ _ _ _ c.in_ok-list_lines.ensures.draws (adds_on c.args.markup.now _ _ _ _ c.in_ok-begin_list.ensures.draws
    (adds_on c.args.markup.now _ _ _ _ c.in_ok-begin_legend.ensures.draws c.in_ok-add_text_element.ensures.draws)))
