use Rattle.std.proofs.Common.{arith}
use Rattle.record_file.specs.Printing.{access_text}
use Rattle.record_file.proofs.StepWords.{near_is}
use Rattle.record_file.proofs.step_reading.near_step_in.Goals as goal

pub returns : goal.returns
returns c =
    near_is c.args.line.now c.in_ok-process.field-0 c.in_ok-owner.field-0 (access_text c.in_ok-access.access) c.in-32.len_at_least c.in_ok-process.ensures.value c.in_ok-process.ensures.small (omega arith) c.in_ok-owner.ensures.value c.in_ok-owner.ensures.small c.in_ok-access.ensures
