use Rattle.std.proofs.Common.{drop}
use Rattle.record_file.proofs.Printed.{words_are}
use Rattle.record_file.proofs.steps.put_words.Goals as goal

pub returns-clause-line : goal.returns-clause-line
returns-clause-line c =
    rw (c.put_number.ensures.line, c.put_byte-at-2.ensures.line, c.put_number-at-3.ensures.line, c.put_field-at.ensures.line, c.put_number-at-2.ensures.line, c.put_byte-at.ensures.line, c.put_number-at.ensures.line, c.put_move-at.ensures.line, c.from.ensures, c.from-2.ensures, c.from-3.ensures)
    (words_are c.args.process c.args.access (drop c.args.end c.args.line.now))
