use Rattle.std.proofs.Common.{ap, ◌∙◌, sym}
use Rattle.picture_layout.specs.{has_room_at, seen}
use Rattle.picture.specs.{seen_page}
use Rattle.picture.proofs.Pagings.{begins_next}
use Rattle.picture.proofs.page.Page.make_room.Goals as goal

pub returns-clause-page : goal.returns-clause-page
returns-clause-page c =
    begins_next (seen c.args.column.now) (seen_page c.args.self.now) c.in_ok-draw_band.field-0 (seen_page c.draw_band.new.self)
    (ap (has_room_at c.args.self.now.placing) (sym c.in_ok-place.ensures) ∙ sym c.has_room.ensures ∙ c.if-has_room.false) c.in_ok-draw_band.ensures.page
