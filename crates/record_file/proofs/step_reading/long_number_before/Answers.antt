use Rattle.std.proofs.Common.{◌<◌, ◌≤◌, arith}
use Rattle.std.proofs.lemmas.Bool.Decides.{nat_tests}
use Rattle.record_file.proofs.StepWords.{more_digits, one_digit}
use Rattle.record_file.proofs.step_reading.long_number_before.Goals as goal

pub digits-init : goal.digits-init
digits-init c = one_digit c.args.bytes.now c.in_ok-number.number c.in-len1-up.len_at_least c.in_ok-number.ensures.value c.in_ok-number.ensures.small

pub digits-preserved : goal.digits-preserved
digits-preserved c =
    let some : 0 < c.digits.number = grind (arith, nat_tests, c.if-number-eq0.false) in
    let few : c.digits.number ≤ 6553 = grind (arith, nat_tests, c.if-number-gt-MOST_BEFORE_A_DIGIT.false) in
    more_digits c.args.bytes.now c.digits.rest.now c.digits.number c.in_ok-number-2.field-0 c.digits.invariant c.in-len1-up-rest.len_at_least c.in_ok-number-2.ensures.value c.in_ok-number-2.ensures.small some few
