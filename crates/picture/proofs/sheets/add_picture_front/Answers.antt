use Rattle.std.proofs.Common.{ℕ, ◌+◌, ◌≡◌, ◌∙◌, ap}
use Rattle.markup.specs.{opens_in, reading, with_tags}
use Rattle.picture.specs.{ground_of, held_in_64, picture_height, svg_front}
use Rattle.picture.proofs.Sheetings.{adds, adds_same}
use Rattle.picture.proofs.Framing.{on_ok, picture_head_read, style_text, style_end_text}
use Rattle.picture.proofs.sheets.add_picture_front.Goals as goal

pub returns-clause-lines : goal.returns-clause-lines
returns-clause-lines c = on_ok c.add_ground.result (λ is. (picture_head_read _ _ _ _ (ap reading c.requires.fresh) c.in_ok-begin_picture.ensures.read
    (c.in_ok-frame.ensures.read ∙ ap (with_tags (opens_in style_text)) c.in_ok-add_titles.ensures.read)
    (is ∙ c.in_ok-add_patterns.ensures.read ∙ c.in_ok-frame-2.ensures.read ∙ ap (with_tags (opens_in style_end_text)) c.in_ok-add_style.ensures.read)).0) c.add_ground.ensures.read

pub returns-clause-elements : goal.returns-clause-elements
returns-clause-elements c = on_ok c.add_ground.result (λ is. (picture_head_read _ _ _ _ (ap reading c.requires.fresh) c.in_ok-begin_picture.ensures.read
    (c.in_ok-frame.ensures.read ∙ ap (with_tags (opens_in style_text)) c.in_ok-add_titles.ensures.read)
    (is ∙ c.in_ok-add_patterns.ensures.read ∙ c.in_ok-frame-2.ensures.read ∙ ap (with_tags (opens_in style_end_text)) c.in_ok-add_style.ensures.read)).1) c.add_ground.ensures.read

pub returns-clause-draws : goal.returns-clause-draws
returns-clause-draws c =
    on_ok c.add_ground.result (λ is. adds_same _ _ _ _ _ is (ap (λ n. ground_of n c.args.heading.now) high) (adds _ _ _ _ c.in_ok-add_patterns.ensures.draws (adds _ _ _ _ c.in_ok-frame-2.ensures.draws
    (adds _ _ _ _ c.in_ok-add_style.ensures.draws (adds _ _ _ _ c.in_ok-frame.ensures.draws (adds _ _ _ _ c.in_ok-add_titles.ensures.draws
    (adds_same _ _ _ _ _ c.in_ok-begin_picture.ensures.draws (ap svg_front high) c.requires.fresh)))))))
    c.add_ground.ensures.draws
  where
    high : c.saturating_add-height.result ≡ picture_height c.args.bands c.args.reads
    high = c.saturating_add-height.ensures ∙ ap (λ (n : ℕ). held_in_64 (n + 42)) (c.saturating_add.ensures ∙ ap (λ (n : ℕ). held_in_64 (c.args.bands + n)) c.legend_height.ensures)
