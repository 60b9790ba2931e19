use Rattle.std.proofs.Common.{◌+◌, ◌++◌, drop, flat_map, ap, ◌∙◌}
use Rattle.record_file.specs.{behind_spaces, signed_words}
use Rattle.record_file.proofs.Printed.{marks_more}
use Rattle.record_file.proofs.printing.push_marks.Goals as goal

pub loop-mark-preserved : goal.loop-mark-preserved
loop-mark-preserved c =
    let reported = c.loop-mark.line.items in
    let marks = c.args.marks.now in
    let k = c.loop-mark.mark-index in
    let written = c.in_ok-extend_from_slice.ensures.items ∙ ap (λ t. reported ++ t) (c.as_bytes.ensures.value ∙ c.in_ok-text.ensures) in
    ap (λ l. l ++ behind_spaces (flat_map signed_words (drop (k + 1) marks))) written ∙ marks_more reported marks k c.mark-item.result c.loop-mark-test.true c.mark-item.is ∙ c.loop-mark.invariant
