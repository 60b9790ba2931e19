use Rattle.std.proofs.Common.{◌≡◌, ◌+◌, [], ◌∷◌, ◌++◌, sym, ap, subst, ◌∙◌}
use Rattle.model.specs.{Entry}
use Rattle.safe_monitor.specs.declared.verdicts.Verdict.TheVariants.{Good}
use Rattle.safe_monitor.proofs.GoodVerdicts.{bad_is, good_is}
use Rattle.any_lock.specs.{HasJudged, JudgeState}
use Rattle.any_lock.proofs.Reported.{observes_bad, observes_on, with_entries}
use Rattle.any_lock.proofs.judge.AnyLockJudge.observe.Goals as goal

pub returns-then-is_good-clause-observed : goal.returns-then-is_good-clause-observed
returns-then-is_good-clause-observed c =
    let i = c.self.inside in
    let e : Entry = record { process = c.args.process; access = c.args.access.now; marks = c.args.marks.now } in
    let old : JudgeState = record { monitor = i.monitor; kept = i.kept; verdict = i.verdict; entries = i.entries; reasons = i.reasons } in
    let v = c.verdict_with-self-inside in
    let good : old.verdict ≡ Good = good_is old.verdict (sym c.is_good.ensures ∙ c.if-is_good.true) in
    let is = ap (λ (m : JudgeState). record m { verdict = v.result }) c.self-then-is_good.view_is in
    λ s entries judged.
    subst (λ (m : JudgeState). HasJudged m s (entries ++ e ∷ [])) (sym is)
    (observes_on old v.new.self e v.result s entries (subst (λ (m : JudgeState). HasJudged m s entries) (sym c.self.view_is) judged) good v.ensures.entries
    (λ past both. v.ensures.observed s past (with_entries old (old.entries + 1) s past both))
    (λ past both. v.ensures.reasons s past (with_entries old (old.entries + 1) s past both))
    (λ past both. v.ensures.goes_on s past (with_entries old (old.entries + 1) s past both)))

pub returns-else-is_good-clause-observed : goal.returns-else-is_good-clause-observed
returns-else-is_good-clause-observed c =
    let i = c.self.inside in
    let e : Entry = record { process = c.args.process; access = c.args.access.now; marks = c.args.marks.now } in
    let old : JudgeState = record { monitor = i.monitor; kept = i.kept; verdict = i.verdict; entries = i.entries; reasons = i.reasons } in
    λ s entries judged.
    observes_bad old e s entries (subst (λ (m : JudgeState). HasJudged m s entries) (sym c.self.view_is) judged) (bad_is old.verdict (sym c.is_good.ensures ∙ c.if-is_good.false))
