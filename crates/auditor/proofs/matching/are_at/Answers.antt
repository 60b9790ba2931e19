use Rattle.std.proofs.Common.{suc, ◌++◌, ◌∷◌, [], take, drop, sym, ap, subst, ◌∙◌, true≢false, refl}
use Rattle.std.proofs.lemmas.List.{take_all}
use Rattle.auditor.specs.{AreAt}
use Rattle.auditor.proofs.Alike.{at-more, at-part, at-plain, at-taken, split-here, takes-nothing, upto-here}
use Rattle.auditor.proofs.matching.are_at.Goals as goal
use Rattle.auditor.proofs.matching.are_at.Goals.{in-Taken+else-not-is_count, in_default}

pub returns-then-not-is_count : goal.returns-then-not-is_count
returns-then-not-is_count c = λ n counted. (
  λ h. absurd (true≢false (sym h)),
  λ h. sym c.if-not-is_count.true ∙ (c.is_count.ensures n counted).1 (at-part n (take c.loop-mark.mark-index c.args.marks.now) (drop (suc c.loop-mark.mark-index) c.args.marks.now) c.in-Taken.place c.in-Taken.field-1
      (subst (AreAt n) (split-here c.args.marks.now c.loop-mark.mark-index c.mark-item.result c.loop-mark-test.true c.mark-item.is ∙ ap (λ m. take c.loop-mark.mark-index c.args.marks.now ++ m ∷ drop (suc c.loop-mark.mark-index) c.args.marks.now) c.in-Taken.is) h)),
)

pub loop-mark-preserved : goal.loop-mark-preserved
loop-mark-preserved c = λ n counted. subst (AreAt n) (sym (upto-here c.args.marks.now c.loop-mark.mark-index c.mark-item.result c.loop-mark-test.true c.mark-item.is))
    (at-more n (take c.loop-mark.mark-index c.args.marks.now) (c.mark-item.result ∷ []) (c.loop-mark.invariant n counted)
    (elim c.match-mark.branch [
      | in-Taken+else-not-is_count w ↦ subst (λ m. AreAt n (m ∷ [])) (sym w.in-Taken.is) (at-taken n w.in-Taken.place w.in-Taken.field-1 ((w.is_count.ensures n counted).0 w.if-not-is_count.false))
      | in_default w ↦ at-plain n c.mark-item.result (takes-nothing c.mark-item.result w.in_default.not-Taken)
    ]))

pub returns : goal.returns
returns c = λ n counted. (
  λ h. subst (AreAt n) (take_all c.loop-mark.mark-index c.args.marks.now c.loop-mark-test.false) (c.loop-mark.invariant n counted),
  λ h. refl,
)
