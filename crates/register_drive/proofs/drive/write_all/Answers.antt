use Rattle.std.proofs.Common.{◌≢◌, ◌≤◌, ◌∙◌, ap, arith}
use Rattle.safe_number.specs.{IsWriting, NumberWrite}
use Rattle.safe_number.proofs.WrittenSteps.{writing-end, width-write_after}
use Rattle.register_drive.proofs.Steps.{step_on, step_idle, step_length, end_of, not_end_of}
use Rattle.register_drive.proofs.drive.write_all.Goals as goal

pub returns-in-Done-clause-written : goal.returns-in-Done-clause-written
returns-in-Done-clause-written c =
    let w : NumberWrite = c.write_step-progress.new.run in
    writing-end _ c.loop-k.invariant.0.0 c.args.value.now w
    (step_on c.loop-k.register _ c.loop-k.invariant.0.0 c.args.value.now c.loop-k.run w c.write_step-progress.result.0 c.write_step-progress.result.1 c.loop-k.invariant.0.1 c.loop-k.invariant.1
    c.write_step-progress.ensures.bit c.write_step-progress.ensures.made c.write_step-progress.ensures.register c.write_step-progress.ensures.run)
    (end_of w.bit w.width _ c.write_step-progress.ensures.progress c.in-Done.is)

pub loop-k-preserved : goal.loop-k-preserved
loop-k-preserved c =
    let w : NumberWrite = c.write_step-progress.new.run in
    let on : IsWriting c.write_step-progress.new.self c.loop-k.invariant.0.0 c.args.value.now w =
    step_on c.loop-k.register _ c.loop-k.invariant.0.0 c.args.value.now c.loop-k.run w c.write_step-progress.result.0 c.write_step-progress.result.1 c.loop-k.invariant.0.1 c.loop-k.invariant.1
    c.write_step-progress.ensures.bit c.write_step-progress.ensures.made c.write_step-progress.ensures.register c.write_step-progress.ensures.run in
    let apart : w.bit ≢ w.width = not_end_of w.bit w.width _ c.write_step-progress.ensures.progress c.in-Going.is in
    let inside : w.bit ≤ w.width = on.inside in (
      (c.loop-k.invariant.0.0, on),
      omega arith,
      ap (λ (x : NumberWrite). x.width) c.write_step-progress.ensures.run ∙ width-write_after _ c.args.value.now c.loop-k.run ∙ c.loop-k.invariant.2,
      step_idle c.loop-k.register _ c.loop-k.invariant.0.0 c.args.value.now c.loop-k.run c.write_step-progress.result.0 c.write_step-progress.result.1 c.args.reader c.loop-k.invariant.0.1 c.loop-k.invariant.1
          c.write_step-progress.ensures.bit c.write_step-progress.ensures.made c.write_step-progress.ensures.register c.loop-k.invariant.3,
      step_length c.loop-k.register _ c.write_step-progress.result.0 c.write_step-progress.result.1 c.write_step-progress.ensures.register ∙ c.loop-k.invariant.4,
    )
