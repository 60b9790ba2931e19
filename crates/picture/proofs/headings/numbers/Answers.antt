use Rattle.std.specs.String.{string_bytes}
use Rattle.picture.proofs.Sheetings.{numbers_are}
use Rattle.picture_layout.proofs.Texts.{ok_along}
use Rattle.picture.proofs.headings.numbers.Goals as goal

pub returns : goal.returns
returns c =
    ok_along string_bytes c.format.result _ _ c.format.ensures.ok
    (numbers_are c.args.subject c.args.setup.now.version c.args.setup.now.ticket_bits c.args.setup.now.stamp_bits c.args.setup.now.slots c.file_word-file.result.now c.file_word-file.ensures)
