use Rattle.std.proofs.Common.{ap, ◌∙◌}
use Rattle.picture_layout.specs.{placing_at_first}
use Rattle.picture.specs.{seen_page}
use Rattle.picture.proofs.Pagings.{sets_words}
use Rattle.picture.proofs.page.Page.set_opening.Goals as goal

pub returns-clause-page : goal.returns-clause-page
returns-clause-page c =
    sets_words c.args.words.now c.in_ok-self.field-0.items c.new-self.result (seen_page c.args.self.now) c.in_ok-self.ensures (c.new-self.ensures ∙ ap placing_at_first c.characters.ensures)
