use Rattle.std.proofs.Common.{sym, ap, ◌∙◌}
use Rattle.model.specs.{Part, last_marks, store_read}
use Rattle.process.specs.{PartState, call_of, marks_to, part_at, reads_image}
use Rattle.process.specs.declared.values_read.ValuesRead.{ValuesRead}
use Rattle.process.proofs.MarksTo.{after-image, marks-to}
use Rattle.process.proofs.call_part.CallPart.after_image.Goals as goal

pub returns-clause-marks : goal.returns-clause-marks
returns-clause-marks c = λ bits is.
    let i = c.self.inside in
    let call = call_of i.call in
    let old : Part = part_at call i.seen i.part in
    let then : ValuesRead = record i.seen { store = c.args.store.now } in
    let next : Part = part_at call then c.after_image-self-inside.result in
    let reads = ap (λ (s : PartState). reads_image s.part) c.self.view_is ∙ c.requires.image in
    let given = ap (λ (s : PartState). store_read s.call bits) c.self.view_is ∙ is in
    c.outcome_before.ensures.marks call i.seen then
    ∙ ap (marks_to old) (after-image call i.seen i.part bits c.args.store.now next reads given c.after_image-self-inside.ensures.part)
    ∙ sym (marks-to call old bits)
    ∙ ap (λ (s : PartState). last_marks s.call s.part bits) c.self.view_is
