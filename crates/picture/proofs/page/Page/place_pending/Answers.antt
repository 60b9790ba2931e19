use Rattle.std.proofs.Common.{Option, ap, option_map, ◌∙◌, sym}
use Rattle.picture_layout.specs.{Column, seen}
use Rattle.picture.specs.{seen_page}
use Rattle.picture.proofs.Pagings.{places_one}
use Rattle.picture.proofs.page.Page.place_pending.Goals as goal

pub returns-clause-page : goal.returns-clause-page
returns-clause-page c =
    places_one (seen c.in-Some.column) (seen_page c.args.self.now) _ (seen_page c.make_room.new.self) (seen_page c.put.new.self) c.in_ok-full.full
    (ap (option_map seen) (sym c.take.ensures.value ∙ c.in-Some.is))
    (ap (λ (o : Option Column). record (seen_page c.args.self.now) { pending = option_map seen o }) c.take.ensures.after)
    c.in_ok-full.ensures.page c.in_ok-put.ensures.page
