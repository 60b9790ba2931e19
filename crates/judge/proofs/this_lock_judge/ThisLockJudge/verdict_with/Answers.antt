use Rattle.std.proofs.Common.{◌≡◌, List, [], ◌∷◌, ◌++◌, reverse, refl, sym, subst, ◌∙◌}
use Rattle.plain_store.specs.{Setup}
use Rattle.model.specs.{Entry}
use Rattle.auditor.specs.{IsVerdict, Law, Verdict}
use Rattle.auditor.specs.safe_monitor.declared.verdicts.Verdict.TheVariants.{Good}
use Rattle.auditor.specs.safe_monitor.{entry_by}
use Rattle.judge.specs.{BothObserved, HasJudged, JudgeState}
use Rattle.judge.proofs.JudgedRecords.{AreReported, reported_goes_on, reported_stays, reported_verdict}
use Rattle.judge.proofs.this_lock_judge.ThisLockJudge.verdict_with.Goals as goal

abbrev observed_in : goal.After-found → Entry
observed_in c = entry_by c.args.process c.args.access.now c.args.marks.now

abbrev before : goal.After-found → JudgeState
before c = record { monitor = c.self.inside.monitor; auditor = c.self.inside.auditor; verdict = c.self.inside.verdict; entries = c.self.inside.entries }

reported : (c : goal.After-found) → AreReported (before c) (observed_in c) c.observe-is_safe.result c.observe-is_safe.new.self c.observe-law.result c.observe-law.new.self
reported c = record {
  monitored = c.observe-is_safe.ensures.setup;
  monitor = λ past observed. c.observe-is_safe.ensures.observed past (observed_in c) refl observed;
  safe = λ past observed all. c.observe-is_safe.ensures.first past (observed_in c) refl observed all;
  audited = c.observe-law.ensures.setup;
  auditor = c.observe-law.ensures.observed;
  stayed = c.observe-law.ensures.unchanged;
}

pub returns-clause-observed : goal.returns-clause-observed
returns-clause-observed c =
    let family : JudgeState → Type 0 = λ j. (s : Setup) (entries : List Entry) → j.verdict ≡ Good → HasJudged j s entries → IsVerdict s (entries ++ observed_in c ∷ []) c.found.result in
    subst family c.self.view_is (λ s entries good judged.
    subst (λ (v : Verdict Law). IsVerdict s (entries ++ observed_in c ∷ []) v) (sym c.found.ensures) (reported_verdict _ (observed_in c) _ _ _ _ (reported c) s entries good judged))

pub returns-clause-goes_on : goal.returns-clause-goes_on
returns-clause-goes_on c =
    let then : JudgeState = record { monitor = c.observe-is_safe.new.self; auditor = c.observe-law.new.self; verdict = c.self.inside.verdict; entries = c.self.inside.entries } in
    let family : JudgeState → Type 0 = λ j. (s : Setup) (entries : List Entry) → j.verdict ≡ Good → HasJudged j s entries → c.found.result ≡ Good → BothObserved then s (reverse (entries ++ observed_in c ∷ [])) in
    subst family c.self.view_is (λ s entries good judged is. reported_goes_on _ (observed_in c) _ _ _ _ (reported c) s entries good judged (sym c.found.ensures ∙ is))

pub returns-clause-stays : goal.returns-clause-stays
returns-clause-stays c =
    let family : JudgeState → Type 0 = λ j. (s : Setup) (entries : List Entry) → j.verdict ≡ Good → HasJudged j s entries → (c.found.result ≡ Good → ⊥) → c.observe-law.new.self ≡ j.auditor in
    subst family c.self.view_is (λ s entries good judged bad. reported_stays _ (observed_in c) _ _ _ _ (reported c) s entries good judged (λ is. bad (c.found.ensures ∙ is)))
