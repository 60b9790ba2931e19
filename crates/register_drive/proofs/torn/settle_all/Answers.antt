use Rattle.std.proofs.Common.{◌≡◌, ◌≢◌, ◌∙◌, sym, length, arith}
use Rattle.reader_copies.specs.{Settling, settled_at}
use Rattle.safe_number.proofs.IntervalSteps.{settling-end}
use Rattle.register_drive.proofs.Steps.{settle_on_so, settle_shape, settle_idle, settled_value, settled_reader, step_length, end_of, not_end_of}
use Rattle.register_drive.proofs.torn.settle_all.Goals as goal

pub returns-in-Done-clause-written : goal.returns-in-Done-clause-written
returns-in-Done-clause-written c = λ others h.
    let t : Settling = c.settle_step-progress.new.torn in
    let same_length : length c.settle_step-progress.new.self ≡ length c.loop-k.register = step_length c.loop-k.register _ c.settle_step-progress.result.0 c.settle_step-progress.result.1 c.settle_step-progress.ensures.register in
    settling-end c.settle_step-progress.new.self others c.args.bit t c.args.value
    (settle_on_so c.loop-k.register c.settle_step-progress.new.self c.args.width others c.args.bit c.loop-k.torn t c.args.value c.settle_step-progress.result.0 c.settle_step-progress.result.1 c.loop-k.invariant.0 c.requires.inside c.loop-k.invariant.4
    (c.loop-k.invariant.2 others h) c.settle_step-progress.ensures.bit c.settle_step-progress.ensures.made c.settle_step-progress.ensures.register c.settle_step-progress.ensures.torn)
    (settled_value c.loop-k.torn t c.args.value c.settle_step-progress.ensures.torn c.loop-k.invariant.3)
    (end_of t.reader (length c.loop-k.register) _ c.settle_step-progress.ensures.progress c.in-Done.is ∙ sym same_length)

pub loop-k-preserved : goal.loop-k-preserved
loop-k-preserved c =
    let t : Settling = c.settle_step-progress.new.torn in
    let same_length : length c.settle_step-progress.new.self ≡ length c.loop-k.register = step_length c.loop-k.register _ c.settle_step-progress.result.0 c.settle_step-progress.result.1 c.settle_step-progress.ensures.register in
    let apart : t.reader ≢ length c.loop-k.register = not_end_of t.reader (length c.loop-k.register) _ c.settle_step-progress.ensures.progress c.in-Going.is in (
      settle_shape c.loop-k.register c.settle_step-progress.new.self c.args.width c.settle_step-progress.result.0 c.settle_step-progress.result.1 c.loop-k.invariant.0 c.settle_step-progress.ensures.register,
      (
        c.loop-k.invariant.1.0,
        settle_on_so c.loop-k.register c.settle_step-progress.new.self c.args.width c.loop-k.invariant.1.0 c.args.bit c.loop-k.torn t c.args.value c.settle_step-progress.result.0 c.settle_step-progress.result.1 c.loop-k.invariant.0 c.requires.inside c.loop-k.invariant.4
            c.loop-k.invariant.1.1 c.settle_step-progress.ensures.bit c.settle_step-progress.ensures.made c.settle_step-progress.ensures.register c.settle_step-progress.ensures.torn,
      ),
      λ others h.
          settle_on_so c.loop-k.register c.settle_step-progress.new.self c.args.width others c.args.bit c.loop-k.torn t c.args.value c.settle_step-progress.result.0 c.settle_step-progress.result.1 c.loop-k.invariant.0 c.requires.inside c.loop-k.invariant.4
          (c.loop-k.invariant.2 others h) c.settle_step-progress.ensures.bit c.settle_step-progress.ensures.made c.settle_step-progress.ensures.register c.settle_step-progress.ensures.torn,
      settled_value c.loop-k.torn t c.args.value c.settle_step-progress.ensures.torn c.loop-k.invariant.3,
      omega (arith, settled_reader c.loop-k.torn t (settled_at c.loop-k.torn c.args.value) c.settle_step-progress.ensures.torn, c.loop-k.invariant.4),
      settle_idle c.loop-k.register c.settle_step-progress.new.self c.args.width c.args.bit c.loop-k.torn c.args.value c.settle_step-progress.result.0 c.settle_step-progress.result.1 c.args.reader c.loop-k.invariant.0 c.requires.inside c.loop-k.invariant.4
          c.settle_step-progress.ensures.bit c.settle_step-progress.ensures.made c.settle_step-progress.ensures.register c.loop-k.invariant.5,
      same_length ∙ c.loop-k.invariant.6,
    )
