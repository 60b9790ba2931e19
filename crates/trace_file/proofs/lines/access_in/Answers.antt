use Rattle.std.proofs.Common.{sym}
use Rattle.files.specs.{words_of}
use Rattle.trace_file.proofs.LineWords.{access_is}
use Rattle.trace_file.proofs.lines.access_in.Goals as goal

pub returns : goal.returns
returns c =
    access_is c.args.registers.now c.args.place.now c.in_ok-word.word.now (words_of c.args.line.now) c.in_ok-word.behind.now c.in_ok-how.behind.now c.in-Ok.cell c.in_ok-name.name c.in_ok-how.how
    c.requires.unsigned (sym c.in-Ok.ensures) c.in_ok-word.ensures.value (sym c.in_ok-name.ensures) c.in_ok-how.ensures
