use Rattle.std.proofs.Common.{arith}
use Rattle.std.proofs.lemmas.Fmt.{length-decimal-le}
use Rattle.record_file.proofs.steps.put_number.Goals as goal

pub write_digits-requires : goal.write_digits-requires
write_digits-requires c = (omega (arith, length-decimal-le 5 c.from.result (omega arith) (omega arith) (omega arith)), omega arith)

pub returns-clause-place : goal.returns-clause-place
returns-clause-place c =
    let short = length-decimal-le 5 c.from.result (omega arith) (omega arith) (omega arith) in
    (omega (arith, c.write_digits.ensures.start), omega (arith, short, c.write_digits.ensures.start))
