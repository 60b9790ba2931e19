use Rattle.std.proofs.Common.{refl}
use Rattle.picture_layout.specs.{seen}
use Rattle.picture.specs.{seen_page}
use Rattle.picture.proofs.Pagings.{begins_read, read_is}
use Rattle.picture.proofs.page.Page.take_read.Goals as goal

pub returns-clause-page : goal.returns-clause-page
returns-clause-page c =
    begins_read c.args.read (seen_page c.args.self.now) (seen_page c.place_pending.new.self) _ c.in_ok-full.full refl c.in_ok-full.ensures.page
    (read_is c.args.read (seen_page c.place_pending.new.self) (seen c.in_ok-of_read.field-0) c.saturating_sub-gap.result c.in_ok-of_read.ensures.whole c.saturating_sub-gap.ensures)
