use Rattle.std.proofs.Common.{sym, ap, ◌∙◌, subst}
use Rattle.process.specs.declared.activity.Activity.TheVariants as work
use Rattle.process.specs.{KeepsPlace, state_at}
use Rattle.process.proofs.ClosingsOn.{clears-choosing, frees-marks, frees-to, still-frees}
use Rattle.process.proofs.process.advance.free_on.Goals as goal

pub returns-then-not-is_over : goal.returns-then-not-is_over
returns-then-not-is_over c =
    let k = c.args.called.now in
    let cur = c.args.cursor.now in
    let more = sym c.is_over.ensures ∙ c.if-not-is_over.true in
    record {
      doing = λ flick value before h. ap (λ w. state_at k w cur) c.requires.frees ∙ frees-to h more;
      marks = λ flick value before h. c.outcome_of_first.ensures.marks ∙ frees-marks h;
      changes = c.outcome_of_first.ensures.changes;
      keeps = subst (λ w. KeepsPlace k w cur) (sym c.requires.frees) (still-frees c.requires.moved.3 more);
    }

pub clear-requires-clause-call : goal.clear-requires-clause-call
clear-requires-clause-call c = c.requires.moved.3.keeps.call

pub returns : goal.returns
returns c =
    let k = c.args.called.now in
    record {
      doing = λ flick value before h. ap (state_at k work.Lowers) c.clear.ensures ∙ frees-to h (sym c.is_over.ensures ∙ c.if-not-is_over.false);
      marks = λ flick value before h. c.outcome_of_first-2.ensures.marks ∙ frees-marks h;
      changes = c.outcome_of_first-2.ensures.changes;
      keeps = subst (KeepsPlace k work.Lowers) (sym c.clear.ensures) (clears-choosing k c.requires.moved.3.keeps.call);
    }
