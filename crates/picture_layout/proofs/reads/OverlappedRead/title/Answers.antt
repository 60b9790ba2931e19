use Rattle.std.specs.String.{string_bytes}
use Rattle.picture_layout.proofs.Texts.{ok_along, title_of}
use Rattle.picture_layout.proofs.reads.OverlappedRead.title.Goals as goal

pub returns : goal.returns
returns c = ok_along string_bytes c.format.result _ _ c.format.ensures.ok (title_of c.args.self.now (string_bytes c.in_ok-read.read) c.from-value.result c.in_ok-read.ensures c.from-value.ensures)
