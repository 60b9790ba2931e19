use Rattle.std.proofs.Common.{◌≢◌, ◌≤◌, ◌∙◌, ap, arith}
use Rattle.safe_number.specs.{IsWriting, NumberWrite}
use Rattle.safe_number.proofs.WrittenSteps.{width-write_after}
use Rattle.register_drive.proofs.Steps.{step_on, step_idle, step_length, not_end_of}
use Rattle.register_drive.proofs.torn.write_some.Goals as goal

pub returns-in-Done-clause-writing : goal.returns-in-Done-clause-writing
returns-in-Done-clause-writing c = λ old h.
    step_on c.loop.register _ old c.args.value.now c.loop.run c.write_step-progress.new.run c.write_step-progress.result.0 c.write_step-progress.result.1 (c.loop.invariant.1 old h) c.loop.invariant.2
    c.write_step-progress.ensures.bit c.write_step-progress.ensures.made c.write_step-progress.ensures.register c.write_step-progress.ensures.run

pub loop-preserved : goal.loop-preserved
loop-preserved c =
    let w : NumberWrite = c.write_step-progress.new.run in
    let on : IsWriting c.write_step-progress.new.self c.loop.invariant.0.0 c.args.value.now w =
    step_on c.loop.register _ c.loop.invariant.0.0 c.args.value.now c.loop.run w c.write_step-progress.result.0 c.write_step-progress.result.1 c.loop.invariant.0.1 c.loop.invariant.2
    c.write_step-progress.ensures.bit c.write_step-progress.ensures.made c.write_step-progress.ensures.register c.write_step-progress.ensures.run in
    let apart : w.bit ≢ w.width = not_end_of w.bit w.width _ c.write_step-progress.ensures.progress c.in-Going.is in
    let inside : w.bit ≤ w.width = on.inside in (
      (c.loop.invariant.0.0, on),
      λ old h.
          step_on c.loop.register _ old c.args.value.now c.loop.run w c.write_step-progress.result.0 c.write_step-progress.result.1 (c.loop.invariant.1 old h) c.loop.invariant.2
          c.write_step-progress.ensures.bit c.write_step-progress.ensures.made c.write_step-progress.ensures.register c.write_step-progress.ensures.run,
      omega arith,
      ap (λ (x : NumberWrite). x.width) c.write_step-progress.ensures.run ∙ width-write_after _ c.args.value.now c.loop.run ∙ c.loop.invariant.3,
      step_idle c.loop.register _ c.loop.invariant.0.0 c.args.value.now c.loop.run c.write_step-progress.result.0 c.write_step-progress.result.1 c.args.reader c.loop.invariant.0.1 c.loop.invariant.2
          c.write_step-progress.ensures.bit c.write_step-progress.ensures.made c.write_step-progress.ensures.register c.loop.invariant.4,
      step_length c.loop.register _ c.write_step-progress.result.0 c.write_step-progress.result.1 c.write_step-progress.ensures.register ∙ c.loop.invariant.5,
    )
