use Rattle.std.proofs.Common.{◌++◌, ap, refl, sym, ◌∙◌, append_assoc}
use Rattle.picture.specs.{lines_of_band, seen_page, titles_if}
use Rattle.picture.proofs.Pagings.{gives_rest}
use Rattle.picture.proofs.page.Page.end.Goals as goal

pub returns-clause-page : goal.returns-clause-page
returns-clause-page c =
    gives_rest c.args.verdict (seen_page c.args.self.now) (seen_page c.place_pending.new.self) (seen_page c.draw_band.new.self) c.in_ok-full.full c.in_ok-last.last refl c.in_ok-full.ensures.page c.in_ok-last.ensures.page

pub returns-clause-lines : goal.returns-clause-lines
returns-clause-lines c = ap (λ l. lines_of_band c.in_ok-full.full ++ l) c.in_ok-last.ensures.lines
    ∙ sym (append_assoc (lines_of_band c.in_ok-full.full) _ (titles_if c.args.verdict))
    ∙ ap (λ l. l ++ titles_if c.args.verdict) c.in_ok-full.ensures.lines
