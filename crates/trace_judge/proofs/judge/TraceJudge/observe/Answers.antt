use Rattle.std.proofs.Common.{◌≡◌, ap, reverse, sym, subst, ◌∙◌}
use Rattle.trace.specs.{TraceEntry, TraceSetup, trace_entry}
use Rattle.trace_judge.specs.{Explains, HasJudged, JudgeState, first_broken}
use Rattle.trace_judge.specs.declared.verdicts.TraceVerdict.TheVariants.{Good, Bad}
use Rattle.trace_judge.proofs.OneMore.{finds, stays_bad}
use Rattle.trace_judge.proofs.judge.TraceJudge.observe.Goals as goal

pub returns-in-Bad-clause-observed : goal.returns-in-Bad-clause-observed
returns-in-Bad-clause-observed c = λ s entries judged.
    let i = c.self.inside in
    let old : JudgeState = record { state = i.state; verdict = i.verdict; entries = i.entries; reasons = i.reasons } in
    let e : TraceEntry = trace_entry c.args.process c.args.access.now c.args.marks.now in
    stays_bad old e s entries (subst (λ (j : JudgeState). HasJudged j s entries) (sym c.self.view_is) judged)
    (λ good. let both : Bad c.in-Bad.field-0 c.in-Bad.field-1 ≡ Good = sym c.in-Bad.is ∙ good in cc)

pub returns-in-Some-clause-observed : goal.returns-in-Some-clause-observed
returns-in-Some-clause-observed c = λ s entries judged.
    let i = c.self.inside in
    let old : JudgeState = record { state = i.state; verdict = i.verdict; entries = i.entries; reasons = i.reasons } in
    let e : TraceEntry = trace_entry c.args.process c.args.access.now c.args.marks.now in
    let before = subst (λ (j : JudgeState). HasJudged j s entries) (sym c.self.view_is) judged in
    let after : JudgeState = c.explain.new.self in
    let is = c.self-in-Some.view_is in
    let seen = before.seen c.in_default.is in
    let broken = sym (c.broken.ensures.law (reverse entries) seen) ∙ c.in-Some.is in
    let law = ap (λ (t : TraceSetup). first_broken t (reverse entries) e) before.setup in
    finds old (record { state = c.self-in-Some.inside.state; verdict = c.self-in-Some.inside.verdict; entries = c.self-in-Some.inside.entries; reasons = c.self-in-Some.inside.reasons }) e c.in-Some.law s entries before c.in_default.is
    (sym law ∙ broken)
    (subst (λ (j : JudgeState). Explains s (reverse entries) e c.in-Some.law j.reasons) (sym is)
    (subst (λ (t : TraceSetup). Explains t (reverse entries) e c.in-Some.law after.reasons) before.setup
    (c.explain.ensures.reasons (reverse entries) seen broken)))
    (ap (λ (j : JudgeState). j.state) is ∙ c.explain.ensures.state)
    (ap (λ (j : JudgeState). j.entries) is ∙ c.explain.ensures.entries)
