use Rattle.std.specs.String.{string_bytes}
use Rattle.picture_layout.proofs.Texts.{ok_along, read_of}
use Rattle.picture_layout.proofs.reads.OverlappedRead.bit_read.Goals as goal

pub returns : goal.returns
returns c = ok_along string_bytes c.format.result _ _ c.format.ensures.ok (read_of c.args.self.now c.word-field.result.now c.word-field.ensures)
