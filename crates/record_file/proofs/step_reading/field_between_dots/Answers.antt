use Rattle.std.proofs.Common.{sym, ◌∙◌}
use Rattle.model.specs.{field_word}
use Rattle.record_file.proofs.StepWords.{between_dots}
use Rattle.record_file.proofs.step_reading.field_between_dots.Goals as goal

pub returns-then-are_eight : goal.returns-then-are_eight
returns-then-are_eight c =
    let cut = c.in-Some.ensures.cases in
    between_dots c.args.bytes.now c.in-Some.name.now c.in-Some.behind.now (field_word c.likely_field-field.result.0) cut.0 cut.1 (c.are_eight.ensures c.if-are_eight.true ∙ sym c.likely_field-field.ensures)
