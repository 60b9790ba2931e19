use Rattle.record_file.specs.Printing.{access_text}
use Rattle.record_file.proofs.StepWords.{far_is}
use Rattle.record_file.proofs.step_reading.far_step_in.Goals as goal

pub returns : goal.returns
returns c =
    far_is c.args.line.now c.in_ok-process.behind.now c.in_ok-owner.behind.now (access_text c.in_ok-access.access) c.in_ok-process.process c.in_ok-owner.owner c.in_ok-process.ensures c.in_ok-owner.ensures c.in_ok-access.ensures
