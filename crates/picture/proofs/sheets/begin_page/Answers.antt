use Rattle.std.proofs.Common.{◌∙◌, ap}
use Rattle.markup.specs.{opens_in, reading, with_tags}
use Rattle.picture.proofs.Framing.{page_begun_read, body_text, on_ok, style_text}
use Rattle.picture.proofs.Sheetings.{adds}
use Rattle.picture.proofs.sheets.begin_page.Goals as goal

pub returns-clause-lines : goal.returns-clause-lines
returns-clause-lines c = on_ok c.frame-3.result (λ is. (page_begun_read _ _ _ _ (ap reading c.requires.fresh) c.in_ok-frame.ensures.read
    (c.in_ok-frame-2.ensures.read ∙ ap (with_tags (opens_in style_text)) c.in_ok-add_text_element.ensures.read)
    (is ∙ ap (with_tags (opens_in body_text)) c.in_ok-add_styles.ensures.read)).0) c.frame-3.ensures.read

pub returns-clause-elements : goal.returns-clause-elements
returns-clause-elements c = on_ok c.frame-3.result (λ is. (page_begun_read _ _ _ _ (ap reading c.requires.fresh) c.in_ok-frame.ensures.read
    (c.in_ok-frame-2.ensures.read ∙ ap (with_tags (opens_in style_text)) c.in_ok-add_text_element.ensures.read)
    (is ∙ ap (with_tags (opens_in body_text)) c.in_ok-add_styles.ensures.read)).1) c.frame-3.ensures.read

pub returns-clause-draws : goal.returns-clause-draws
returns-clause-draws c = on_ok c.frame-3.result (λ is. adds _ _ _ _ is (adds _ _ _ _ c.in_ok-add_styles.ensures.draws (adds _ _ _ _ c.in_ok-frame-2.ensures.draws
    (adds _ _ _ _ c.in_ok-add_text_element.ensures.draws (adds _ _ _ _ c.in_ok-frame.ensures.draws c.requires.fresh))))) c.frame-3.ensures.draws
