use Rattle.std.proofs.Common.{sym, ap, ◌∙◌, subst}
use Rattle.model.specs.{Part, last_marks}
use Rattle.process.specs.{IsOutcome, PartState, call_of, marks_to, part_at}
use Rattle.process.proofs.MarksTo.{marks-to}
use Rattle.process.proofs.call_part.CallPart.after.Goals as goal

pub returns-clause-marks : goal.returns-clause-marks
returns-clause-marks c = λ bits out.
    let i = c.self.inside in
    let call = call_of i.call in
    let old : Part = part_at call i.seen i.part in
    let given = subst (λ (s : PartState). IsOutcome s.call s.part bits c.args.number) (sym c.self.view_is) out in
    c.outcome_before.ensures.marks call i.seen c.part_after-self-inside.new.seen
    ∙ ap (marks_to old) (c.part_after-self-inside.ensures.part bits given)
    ∙ sym (marks-to call old bits)
    ∙ ap (λ (s : PartState). last_marks s.call s.part bits) c.self.view_is
