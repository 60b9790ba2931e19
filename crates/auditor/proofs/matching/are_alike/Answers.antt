use Rattle.std.proofs.Common.{sym, ◌∙◌, arith, true≢false, refl}
use Rattle.model.specs.{placed}
use Rattle.auditor.proofs.Alike.{same_from, same-here, same-more}
use Rattle.auditor.proofs.matching.are_alike.Goals as goal

pub returns-then-not-is_same : goal.returns-then-not-is_same
returns-then-not-is_same c = (
  λ h. absurd (true≢false (sym h)),
  λ h. sym c.if-not-is_same.true ∙ c.is_same.ensures.1 (c.unplaced.ensures
      ∙ same-here (placed 0) c.args.marks.now c.args.others.now c.loop-at.at c.index-marks-at.result c.index-others-at.result c.loop-at-test.true c.if-marks-others.false c.index-marks-at.is c.index-others-at.is h
      ∙ sym c.unplaced-in-loop-at.ensures),
)

pub loop-at-preserved : goal.loop-at-preserved
loop-at-preserved c = same-more (placed 0) c.args.marks.now c.args.others.now c.loop-at.at c.index-marks-at.result c.index-others-at.result c.loop-at-test.true c.if-marks-others.false c.index-marks-at.is c.index-others-at.is
    (sym c.unplaced.ensures ∙ c.is_same.ensures.0 c.if-not-is_same.false ∙ c.unplaced-in-loop-at.ensures) c.loop-at.invariant

pub returns : goal.returns
returns c = (
  λ h. same_from (placed 0) c.args.marks.now c.args.others.now c.if-marks-others.false (λ k d l. c.loop-at.invariant k d (omega (arith, l, c.loop-at-test.false))),
  λ h. refl,
)
