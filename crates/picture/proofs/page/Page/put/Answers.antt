use Rattle.std.proofs.Common.{ap, map, ◌∷◌, [], ◌∙◌}
use Rattle.std.proofs.lemmas.List.{map-append}
use Rattle.picture_layout.specs.{ColumnPosition, seen}
use Rattle.picture.specs.{seen_page}
use Rattle.picture.proofs.Held.{put_last}
use Rattle.picture.proofs.Pagings.{put_parts}
use Rattle.picture.proofs.page.Page.put.Goals as goal

pub returns-clause-page : goal.returns-clause-page
returns-clause-page c =
    put_parts (seen c.args.column) (seen c.put.new.column) c.in_ok-place.place.x (seen_page c.args.self.now) c.put.new.self (map seen c.push.new.self.items)
    (ap (map seen) c.in_ok-push.ensures.items ∙ map-append seen c.args.self.now.columns.items (c.put.new.column ∷ []))
    c.in_ok-put.ensures.moved c.in_ok-put.ensures.placed (ap (λ (p : ColumnPosition). p.x) c.in_ok-place.ensures)

pub returns-clause-lines : goal.returns-clause-lines
returns-clause-lines c = put_last c.args.self.now.columns.items c.push.new.self.items c.args.column c.put.new.column c.in_ok-push.ensures.items c.in_ok-put.ensures.reported
