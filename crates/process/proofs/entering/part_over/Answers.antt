use Rattle.std.proofs.Common.{ap, ◌∙◌}
use Rattle.model.specs.{Part}
use Rattle.process.specs.{PartState}
use Rattle.process.proofs.PartOver.{after-same, bits_read, marks-same, narrow-read, outcome-of}
use Rattle.process.proofs.entering.part_over.Goals as goal

pub number_read-number-requires : goal.number_read-number-requires
number_read-number-requires c = λ run. narrow-read c.args.called.now.call c.args.called.now.part c.args.cursor.now c.requires.done (c.reads_image.ensures.narrow c.if-reads_image.false) run

pub after-requires-clause-number : goal.after-requires-clause-number
after-requires-clause-number c =
    let k = c.args.called.now in
    (bits_read k.part c.args.cursor.now, outcome-of k.call k.part c.args.cursor.now c.number_read-number.result c.requires.done c.number_read-number.ensures.reads c.number_read-number.ensures.writes)

pub returns-else-reads_image-clause-part : goal.returns-else-reads_image-clause-part
returns-else-reads_image-clause-part c =
    let k : PartState = c.args.called.now in
    let with_part : Part → PartState = λ p. record k { part = p } in
    c.after.ensures.part (bits_read k.part c.args.cursor.now) (outcome-of k.call k.part c.args.cursor.now c.number_read-number.result c.requires.done c.number_read-number.ensures.reads c.number_read-number.ensures.writes)
    ∙ ap with_part (after-same k.call k.part c.args.cursor.now)

pub returns-else-reads_image-clause-marks : goal.returns-else-reads_image-clause-marks
returns-else-reads_image-clause-marks c =
    let k = c.args.called.now in
    c.after.ensures.marks (bits_read k.part c.args.cursor.now) (outcome-of k.call k.part c.args.cursor.now c.number_read-number.result c.requires.done c.number_read-number.ensures.reads c.number_read-number.ensures.writes)
    ∙ marks-same k.call k.part c.args.cursor.now
