use Rattle.std.proofs.Common.{◌≡◌, ◌≢◌, ◌<◌, ◌∙◌, ap, Bool, false, length, arith}
use Rattle.safe_number.specs.{NumberRead, first_bits, loaded}
use Rattle.register_drive.proofs.Steps.{read_on_so, read_bits, step_length, end_of, not_end_of}
use Rattle.register_drive.proofs.drive.read_all.Goals as goal

pub returns-in-Done-clause-bits : goal.returns-in-Done-clause-bits
returns-in-Done-clause-bits c = λ v h.
    let r : NumberRead = c.read_step-progress.new.run in
    let in_row : c.args.reader < length c.loop-k.register = omega (arith, c.requires.reader, c.loop-k.invariant.0.readers) in
    let so = read_on_so c.args.register.now c.loop-k.register _ c.args.reader c.args.width c.loop-k.run r c.read_step-progress.result.0 c.read_step-progress.result.1 false in_row c.loop-k.invariant.0
    c.read_step-progress.ensures.bit c.read_step-progress.ensures.made c.read_step-progress.ensures.register c.read_step-progress.ensures.run in
    ((so.2 v h).1).so_far
    ∙ ap (first_bits v)
    (end_of (length r.bits) r.width _ c.read_step-progress.ensures.progress c.in-Done.is
    ∙ ap (λ (x : NumberRead). x.width) c.read_step-progress.ensures.run ∙ c.loop-k.invariant.0.width_is)

pub loop-k-preserved : goal.loop-k-preserved
loop-k-preserved c =
    let r : NumberRead = c.read_step-progress.new.run in
    let x : Bool = loaded c.loop-k.register c.args.reader c.loop-k.run false in
    let in_row : c.args.reader < length c.loop-k.register = omega (arith, c.requires.reader, c.loop-k.invariant.0.readers) in
    let so = read_on_so c.args.register.now c.loop-k.register _ c.args.reader c.args.width c.loop-k.run r c.read_step-progress.result.0 c.read_step-progress.result.1 false in_row c.loop-k.invariant.0
    c.read_step-progress.ensures.bit c.read_step-progress.ensures.made c.read_step-progress.ensures.register c.read_step-progress.ensures.run in
    let same_width : r.width ≡ c.args.width = ap (λ (y : NumberRead). y.width) c.read_step-progress.ensures.run ∙ c.loop-k.invariant.0.width_is in
    let apart : length r.bits ≢ r.width = not_end_of (length r.bits) r.width _ c.read_step-progress.ensures.progress c.in-Going.is in (
      record {
        shape = so.0;
        readers = step_length c.loop-k.register _ c.read_step-progress.result.0 c.read_step-progress.result.1 c.read_step-progress.ensures.register ∙ c.loop-k.invariant.0.readers;
        reading = so.1;
        width_is = same_width;
        going = omega (arith, read_bits c.loop-k.run r x c.read_step-progress.ensures.run, c.loop-k.invariant.0.going);
        written = λ v h. (so.2 v h).0;
        undisturbed = λ v h. (so.2 v h).1;
      },
      ap (λ (y : NumberRead). y.room) c.read_step-progress.ensures.run ∙ c.loop-k.invariant.1,
    )
