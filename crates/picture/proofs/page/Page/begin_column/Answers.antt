use Rattle.picture_layout.specs.{seen, text_of}
use Rattle.picture.specs.{held_back, seen_page}
use Rattle.picture.proofs.Held.{alone_pending}
use Rattle.picture.proofs.Pagings.{begun_is}
use Rattle.picture.proofs.page.Page.begin_column.Goals as goal

pub returns-clause-page : goal.returns-clause-page
returns-clause-page c = record {
  placed = seen_page c.place_pending.new.self;
  places = c.in_ok-full.ensures.page;
  is = begun_is c.args.line (seen_page c.place_pending.new.self) (seen c.in_ok-new.field-0) c.saturating_sub-gap.result c.args.frees c.place_pending.new.self.state c.args.self.now.state c.in_ok-new.ensures.whole c.saturating_sub-gap.ensures c.in_ok-full.ensures.state;
}

pub returns-clause-lines : goal.returns-clause-lines
returns-clause-lines c = alone_pending c.place_pending.new.self.columns.items _ (held_back c.args.self.now) c.in_ok-new.field-0 (text_of c.args.line) c.in_ok-full.ensures.lines c.in_ok-new.ensures.reported
