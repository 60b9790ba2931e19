use Rattle.record_file.proofs.StepWords.{digits_and_dot, fourth_digit}
use Rattle.record_file.proofs.step_reading.bit_before_dot.Goals as goal

pub returns-then-bytes-count-eq46 : goal.returns-then-bytes-count-eq46
returns-then-bytes-count-eq46 c =
    digits_and_dot c.args.bytes.now c.in-Some.number c.in-Some.count c.in-len5-up.len_at_least c.in-Some.ensures.bounded c.in-Some.ensures.written c.if-bytes-count-eq46.true

pub returns-then-count-eq3 : goal.returns-then-count-eq3
returns-then-count-eq3 c =
    fourth_digit c.args.bytes.now c.in-Some.number c.in-Some.count c.in_ok-last.last c.in-len5-up.len_at_least c.in-Some.ensures.written c.in-Some.ensures.all c.if-count-eq3.true c.in-Some.ensures.small c.in_ok-last.ensures.value c.in_ok-last.ensures.small c.if-e-eq46.true

pub returns : goal.returns
returns c = c.in_ok-number.ensures
