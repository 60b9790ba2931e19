use Rattle.std.proofs.Common.{arith}
use Rattle.std.specs.Fmt.{decimal}
use Rattle.record_file.proofs.StepWords.{from_end, one_digit}
use Rattle.record_file.proofs.step_reading.process_at.Goals as goal

pub returns-then-next-end : goal.returns-then-next-end
returns-then-next-end c =
    one_digit c.args.bytes.now c.in_ok-number.number (omega (arith, c.in-len2-up.len_at_least)) c.in_ok-number.ensures.value c.in_ok-number.ensures.small

pub returns : goal.returns
returns c = from_end c.args.bytes.now (decimal c.in_ok-process.process) c.in_ok-process.behind.now c.args.end c.in_ok-process.ensures
