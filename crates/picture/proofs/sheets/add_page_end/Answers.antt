use Rattle.std.proofs.Common.{◌∙◌, ap}
use Rattle.markup.specs.{opens_in, reading, with_tags}
use Rattle.picture.specs.{script_of}
use Rattle.picture.proofs.Framing.{on_ok, page_end_read, script_reads, script_text}
use Rattle.picture.proofs.Sheetings.{adds}
use Rattle.picture.proofs.sheets.add_page_end.Goals as goal

pub returns-clause-lines : goal.returns-clause-lines
returns-clause-lines c = on_ok c.frame-3.result (λ is. (page_end_read (script_of c.args.subject) _ _ _ _ _ (script_reads c.args.subject) (ap reading c.requires.fresh) c.in_ok-frame.ensures.read
    (c.in_ok-frame-2.ensures.read ∙ ap (with_tags (opens_in script_text)) c.in_ok-add_slider.ensures.read) c.in_ok-add_script.ensures.read is).0) c.frame-3.ensures.read

pub returns-clause-elements : goal.returns-clause-elements
returns-clause-elements c = on_ok c.frame-3.result (λ is. (page_end_read (script_of c.args.subject) _ _ _ _ _ (script_reads c.args.subject) (ap reading c.requires.fresh) c.in_ok-frame.ensures.read
    (c.in_ok-frame-2.ensures.read ∙ ap (with_tags (opens_in script_text)) c.in_ok-add_slider.ensures.read) c.in_ok-add_script.ensures.read is).1) c.frame-3.ensures.read

pub returns-clause-draws : goal.returns-clause-draws
returns-clause-draws c =
    on_ok c.frame-3.result (λ is. adds _ _ _ _ is (adds _ _ _ _ c.in_ok-add_script.ensures.draws (adds _ _ _ _ c.in_ok-frame-2.ensures.draws (adds _ _ _ _ c.in_ok-add_slider.ensures.draws
    (adds _ _ _ _ c.in_ok-frame.ensures.draws c.requires.fresh))))) c.frame-3.ensures.draws
