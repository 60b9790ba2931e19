use Rattle.std.proofs.Common.{◌≡◌, sym, ap, subst, ◌∙◌}
use Rattle.model.specs.{Entry}
use Rattle.auditor.specs.safe_monitor.declared.verdicts.Verdict.TheVariants.{Good}
use Rattle.auditor.specs.safe_monitor.{entry_by}
use Rattle.auditor.proofs.safe_monitor.GoodVerdicts.{bad_is, good_is}
use Rattle.judge.specs.{JudgeState}
use Rattle.judge.proofs.JudgedRecords.{ObservesOn, observes_bad, observes_good}
use Rattle.judge.proofs.this_lock_judge.ThisLockJudge.observe_parts.Goals as goal
use Rattle.judge.proofs.this_lock_judge.ThisLockJudge.observe_parts.Goals.{then-is_good, else-is_good}

pub returns-clause-observed : goal.returns-clause-observed
returns-clause-observed c =
    let e : Entry = entry_by c.args.process c.args.access.now c.args.marks.now in
    let old : JudgeState = c.args.self.now in
    let same : c.self.inside.verdict ≡ old.verdict = ap (λ (j : JudgeState). j.verdict) c.self.view_is in
    subst (ObservesOn old e) (sym c.self-2.view_is) (elim c.if-is_good.branch [
      | then-is_good w ↦
          let v = w.verdict_with-self-inside in
          let good : old.verdict ≡ Good = sym same ∙ good_is c.self.inside.verdict (sym c.is_good.ensures ∙ w.if-is_good.true) in
          let is : c.if-is_good.self ≡ record v.new.self { verdict = v.result } = w.self-is ∙ ap (λ (m : JudgeState). record m { verdict = v.result }) w.self-then-is_good.view_is in
          subst (ObservesOn old e) (sym is) (observes_good old v.new.self e v.result good v.ensures.entries v.ensures.observed v.ensures.goes_on v.ensures.stays)
      | else-is_good w ↦ subst (ObservesOn old e) (sym w.self-is) (observes_bad old e (λ good. bad_is c.self.inside.verdict (sym c.is_good.ensures ∙ w.if-is_good.false) (same ∙ good)))
    ])
