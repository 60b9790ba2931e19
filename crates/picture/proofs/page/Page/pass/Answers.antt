use Rattle.std.proofs.Common.{ap, option_copied, refl, sym, ◌∙◌}
use Rattle.picture.specs.{seen_page}
use Rattle.picture.proofs.Framing.{on_ok}
use Rattle.picture.proofs.Pagings.{passes_change, passes_line}
use Rattle.picture.proofs.page.Page.pass.Goals as goal

pub returns-in-None-clause-page : goal.returns-in-None-clause-page
returns-in-None-clause-page c =
    passes_line c.args.line.now (seen_page c.args.self.now) _ c.take.new.self (sym c.change.ensures ∙ ap option_copied c.in-None.is) c.in_ok-take.ensures.whole refl

pub returns-in-Some-clause-page : goal.returns-in-Some-clause-page
returns-in-Some-clause-page c =
    on_ok c.set_opening.result (λ sets. passes_change c.args.line.now c.in-Some.change.now c.as_slice.result.now (seen_page c.args.self.now) _ _ c.take.new.self
    (sym c.change.ensures ∙ ap option_copied c.in-Some.is) c.as_slice.ensures.value c.in_ok-take.ensures.whole refl sets) c.set_opening.ensures.page
