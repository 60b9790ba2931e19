use Rattle.std.proofs.Common.{refl}
use Rattle.picture_layout.specs.{seen}
use Rattle.picture.specs.{seen_page}
use Rattle.picture.proofs.Pagings.{access_is, begins_access}
use Rattle.picture.proofs.page.Page.take_access.Goals as goal

pub returns-clause-page : goal.returns-clause-page
returns-clause-page c =
    begins_access c.args.access (seen_page c.args.self.now) (seen_page c.place_pending.new.self) _ c.in_ok-full.full refl c.in_ok-full.ensures.page
    (access_is c.args.access (seen_page c.place_pending.new.self) (seen c.of_access.result) c.saturating_sub-gap.result c.of_access.ensures.whole c.saturating_sub-gap.ensures)
