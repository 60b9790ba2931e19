use Rattle.std.proofs.Common.{◌≡◌, slice_index_or, arith}
use Rattle.std.proofs.lemmas.Bool.Decides.{nat_tests}
use Rattle.record_file.proofs.StepWords.{only_digit}
use Rattle.record_file.proofs.step_reading.number_before.Goals as goal

pub returns-then-next-end : goal.returns-then-next-end
returns-then-next-end c =
    let ended : slice_index_or c.args.bytes.now 1 0 ≡ c.args.end = grind (arith, nat_tests, c.if-next-end.true) in
    only_digit c.args.bytes.now c.in_ok-digit.field-0 c.args.end c.in-len2-up.len_at_least c.in_ok-digit.ensures.value c.in_ok-digit.ensures.small ended
