use Rattle.std.proofs.Common.{sym}
use Rattle.files.specs.{words_of}
use Rattle.trace_file.proofs.LineWords.{access_and_marks, marks_are}
use Rattle.trace_file.proofs.lines.entry_in.Goals as goal

pub returns-then-is_sign : goal.returns-then-is_sign
returns-then-is_sign c =
    marks_are c.args.registers.now (words_of c.args.line.now) c.in_ok-first.first.now c.in_ok-second.second.now c.in_ok-first.behind.now (words_of c.in_ok-second.later.now) c.in-Ok.process c.in_ok-marks.marks.items
    c.in_ok-first.ensures.value (sym c.in-Ok.ensures) c.in_ok-second.ensures.value c.in_ok-marks.ensures

pub returns : goal.returns
returns c =
    access_and_marks c.args.registers.now (words_of c.args.line.now) c.in_ok-first.first.now c.in_ok-second.second.now c.in_ok-first.behind.now c.in_ok-access.signed.now (words_of c.in_ok-second.later.now) c.in-Ok.process c.in_ok-access.access c.in_ok-marks-2.marks.items
    c.in_ok-first.ensures.value (sym c.in-Ok.ensures) c.in_ok-second.ensures.value c.in_ok-access.ensures c.in_ok-marks-2.ensures
