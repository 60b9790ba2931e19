use Rattle.std.proofs.Common.{◌≡◌, ◌∷◌, Option, refl, sym, ap, subst, ◌∙◌}
use Rattle.plain_store.specs.{Setup}
use Rattle.model.specs.{Entry, Past}
use Rattle.any_lock.specs.{AnyLockLaw, AreReasonsIf, BothObserved, JudgeState, first_broken, verdict_with}
use Rattle.safe_monitor.specs.declared.verdicts.Verdict.TheVariants.{Good}
use Rattle.any_lock.proofs.Breaks.{reported_by}
use Rattle.any_lock.proofs.Reported.{AreReported, found_good, reasons_given, reported_law, reported_on}
use Rattle.any_lock.proofs.judge.AnyLockJudge.verdict_with.Goals as goal

-- the observed entry, the judge before it, and the results for it
abbrev observed_in : goal.After-found → Entry
observed_in c = record { process = c.args.process; access = c.args.access.now; marks = c.args.marks.now }

abbrev before : goal.After-found → JudgeState
before c = record { monitor = c.self.inside.monitor; kept = c.self.inside.kept; verdict = c.self.inside.verdict; entries = c.self.inside.entries; reasons = c.self.inside.reasons }

reported : (c : goal.After-found) → AreReported (before c) (observed_in c) c.observe-is_safe.result c.observe-is_safe.new.self c.observe-law.result c.observe-law.new.self
reported c = record {
  monitored = c.observe-is_safe.ensures.setup;
  monitor = λ past. c.observe-is_safe.ensures.observed past (observed_in c) refl;
  safe = λ past observed there. reported_by c.self.inside.monitor.setup past (observed_in c) c.observe-is_safe.result (c.observe-is_safe.ensures.first past (observed_in c) refl observed there);
  kept = c.observe-law.ensures.setup;
  law = λ past. c.observe-law.ensures.law past (observed_in c) refl refl refl;
  knows = λ past. c.observe-law.ensures.knows past (observed_in c) refl refl refl;
}

pub returns-clause-observed : goal.returns-clause-observed
returns-clause-observed c =
    let family : JudgeState → Type 0 = λ j. (s : Setup) (past : Past) → BothObserved j s past → c.found.result ≡ verdict_with c.args.number (first_broken s past (observed_in c)) in
    subst family c.self.view_is (λ s past both. c.found.ensures ∙ ap (verdict_with c.args.number) (reported_law _ (observed_in c) _ _ _ _ (reported c) s past both))

pub returns-clause-goes_on : goal.returns-clause-goes_on
returns-clause-goes_on c =
    let then : JudgeState = record { monitor = c.observe-is_safe.new.self; kept = c.observe-law.new.self; verdict = c.self.inside.verdict; entries = c.self.inside.entries; reasons = c.reasons_of-self-inside.result } in
    let family : JudgeState → Type 0 = λ j. (s : Setup) (past : Past) → BothObserved j s past → c.found.result ≡ Good → BothObserved then s (observed_in c ∷ past) in
    subst family c.self.view_is (λ s past both is.
    reported_on _ (observed_in c) _ _ _ _ c.reasons_of-self-inside.result (reported c) s past both (found_good c.args.number c.observe-law.result (sym c.found.ensures ∙ is)))

pub returns-clause-reasons : goal.returns-clause-reasons
returns-clause-reasons c =
    let e = observed_in c in
    let family : JudgeState → Type 0 = λ j. (s : Setup) (past : Past) → BothObserved j s past → AreReasonsIf (first_broken s past e) c.reasons_of-self-inside.result s past e in
    subst family c.self.view_is (λ s past both.
    subst (λ (l : Option AnyLockLaw). AreReasonsIf l c.reasons_of-self-inside.result s past e) (reported_law _ e _ _ _ _ (reported c) s past both)
    (reasons_given c.self.inside.kept c.observe-law.new.self s past e c.observe-law.result c.reasons_of-self-inside.result both.kept both.knows c.observe-law.ensures.same c.reasons_of-self-inside.ensures.none (λ knows. c.reasons_of-self-inside.ensures.reasons past e refl refl refl knows)))
