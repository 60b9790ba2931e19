-- The verdict with one more entry.
use Rattle.std.proofs.Common.{◌≡◌, ℕ, ◌+◌, ◌++◌, Bool, not, List, [], ◌∷◌, length, reverse, Option, Some, None, refl, ap, sym, subst, ◌∙◌}
use Rattle.std.proofs.lemmas.List.{length-append, length-reverse, reverse-append}
use Rattle.plain_store.specs.{Setup}
use Rattle.model.specs.{Entry, Past}
use Rattle.safe_monitor.specs.{AllAreOfThere, HasObserved as HasMonitored, MonitorState}
use Rattle.any_lock.specs.{AnyLockLaw, Verdict, AreReasonsAt, AreReasonsIf, AreReasonsOf, BothObserved, HasJudged, JudgeState, LockRunState, Knows, breaks_safe, first_broken, verdict_after, verdict_of, verdict_with}
use Rattle.safe_monitor.specs.declared.verdicts.Verdict.TheVariants.{Good, Bad}
use Rattle.any_lock.specs.declared.reasons.Reasons.{Reasons}
use Rattle.any_lock.proofs.Breaks.{access_there, unbroken, unrefused}

-- some entries and one more, the newest first
pub newest_first : (entries : List Entry) (e : Entry) → reverse (entries ++ e ∷ []) ≡ e ∷ reverse entries
newest_first entries e = reverse-append entries (e ∷ [])

-- the verdict with one more entry, after entries with a good one
pub verdict_good : (s : Setup) (entries : List Entry) (e : Entry) → verdict_of s entries ≡ Good → verdict_of s (entries ++ e ∷ []) ≡ verdict_with (length entries) (first_broken s (reverse entries) e)
verdict_good s entries e good =
    ap (verdict_after s) (newest_first entries e)
    ∙ ap (λ v. elim v as (λ _. Verdict AnyLockLaw) [ Good ↦ verdict_with (length (reverse entries)) (first_broken s (reverse entries) e) | Bad k l ↦ Bad k l ]) good
    ∙ ap (λ n. verdict_with n (first_broken s (reverse entries) e)) (length-reverse entries)

-- a bad verdict is unchanged
pub verdict_bad : (s : Setup) (entries : List Entry) (e : Entry) (k : ℕ) (l : AnyLockLaw) → verdict_of s entries ≡ Bad k l → verdict_of s (entries ++ e ∷ []) ≡ Bad k l
verdict_bad s entries e k l bad =
    ap (verdict_after s) (newest_first entries e)
    ∙ ap (λ v. elim v as (λ _. Verdict AnyLockLaw) [ Good ↦ verdict_with (length (reverse entries)) (first_broken s (reverse entries) e) | Bad k l ↦ Bad k l ]) bad

-- if a verdict is good, no law is broken
pub found_good : (k : ℕ) (law : Option AnyLockLaw) → verdict_with k law ≡ Good → law ≡ None
found_good k (Some l) is = absurd (cc)
found_good k None is = refl

-- the effect of one more entry on the monitor and on the kept state
pub record AreReported (j : JudgeState) (e : Entry) (is_safe : Bool) (w : MonitorState) (found : Option AnyLockLaw) (k : LockRunState) : Type 0 where
  pub monitored : w.setup ≡ j.monitor.setup
  pub monitor : (past : Past) → HasMonitored j.monitor past → HasMonitored w (e ∷ past)
  pub safe : (past : Past) → HasMonitored j.monitor past → AllAreOfThere j.monitor.setup past → breaks_safe j.monitor.setup past e ≡ not is_safe
  pub kept : k.setup ≡ j.kept.setup
  pub law : (past : Past) → Knows j.kept past → breaks_safe j.kept.setup past e ≡ not is_safe → found ≡ first_broken j.kept.setup past e
  pub knows : (past : Past) → Knows j.kept past → found ≡ None → Knows k (e ∷ past)

pub reported_law : (j : JudgeState) (e : Entry) (is_safe : Bool) (w : MonitorState) (law : Option AnyLockLaw) (k : LockRunState) → AreReported j e is_safe w law k →
    (s : Setup) (past : Past) → BothObserved j s past → law ≡ first_broken s past e
reported_law j e is_safe w law k reported s past both =
    let there : AllAreOfThere j.monitor.setup past = subst (λ (t : Setup). AllAreOfThere t past) (sym both.monitored) both.there in
    let safe : breaks_safe j.kept.setup past e ≡ not is_safe = subst (λ (t : Setup). breaks_safe t past e ≡ not is_safe) (both.monitored ∙ sym both.kept) (reported.safe past both.monitor there) in
    reported.law past both.knows safe ∙ ap (λ t. first_broken t past e) both.kept

pub reported_on : (j : JudgeState) (e : Entry) (is_safe : Bool) (w : MonitorState) (law : Option AnyLockLaw) (k : LockRunState) (r : Option Reasons) → AreReported j e is_safe w law k →
    (s : Setup) (past : Past) → BothObserved j s past → law ≡ None → BothObserved (record { monitor = w; kept = k; verdict = j.verdict; entries = j.entries; reasons = r }) s (e ∷ past)
reported_on j e is_safe w law k r reported s past both none =
    let first : first_broken s past e ≡ None = sym (reported_law j e is_safe w law k reported s past both) ∙ none in
    record {
      monitored = reported.monitored ∙ both.monitored;
      monitor = reported.monitor past both.monitor;
      kept = reported.kept ∙ both.kept;
      knows = reported.knows past both.knows none;
      there = (access_there s past e (unrefused s past e (unbroken s past e first).1), both.there);
    }

-- the monitor and the kept state do not depend on the number of entries
pub with_entries : (j : JudgeState) (n : ℕ) (s : Setup) (past : Past) → BothObserved j s past → BothObserved (record j { entries = n }) s past
with_entries j n s past both = record { monitored = both.monitored; monitor = both.monitor; kept = both.kept; knows = both.knows; there = both.there }

-- the reasons of the first entry that breaks a law
reasons_at : (s : Setup) (entries : List Entry) (e : Entry) (law : Option AnyLockLaw) (r : Option Reasons) → AreReasonsIf law r s (reverse entries) e → AreReasonsOf s (entries ++ e ∷ []) (verdict_with (length entries) law) r
reasons_at s entries e None r are = are
reasons_at s entries e (Some l) r are = record { entry = e; past = reverse entries; later = []; splits = newest_first entries e; number = length-reverse entries; reported = are.0; is = are.1; are = are.2 }

-- a judge with a good verdict and one more entry
pub observes_on : (old new : JudgeState) (e : Entry) (found : Verdict AnyLockLaw) (s : Setup) (entries : List Entry) → HasJudged old s entries → old.verdict ≡ Good → new.entries ≡ old.entries + 1 →
    ((past : Past) → BothObserved old s past → found ≡ verdict_with old.entries (first_broken s past e)) →
    ((past : Past) → BothObserved old s past → AreReasonsIf (first_broken s past e) new.reasons s past e) →
    ((past : Past) → BothObserved old s past → found ≡ Good → BothObserved new s (e ∷ past)) →
    HasJudged (record new { verdict = found }) s (entries ++ e ∷ [])
observes_on old new e found s entries judged good more observed reasons on =
    let both : BothObserved old s (reverse entries) = judged.goes_on good in
    let is : found ≡ verdict_with (length entries) (first_broken s (reverse entries) e) = observed (reverse entries) both ∙ ap (λ n. verdict_with n (first_broken s (reverse entries) e)) judged.count in
    record {
      good = judged.good;
      count = more ∙ ap (λ n. n + 1) judged.count ∙ sym (length-append entries (e ∷ []));
      verdict = is ∙ sym (verdict_good s entries e (sym judged.verdict ∙ good));
      reasons = subst (λ v. AreReasonsOf s (entries ++ e ∷ []) v new.reasons) (sym is) (reasons_at s entries e (first_broken s (reverse entries) e) new.reasons (reasons (reverse entries) both));
      goes_on = λ is. subst (λ (l : Past). BothObserved (record new { verdict = found }) s l) (sym (newest_first entries e))
          (let next = on (reverse entries) both is in record { monitored = next.monitored; monitor = next.monitor; kept = next.kept; knows = next.knows; there = next.there });
    }

-- a judge with a bad verdict and one more entry
pub observes_bad : (old : JudgeState) (e : Entry) (s : Setup) (entries : List Entry) → HasJudged old s entries → (old.verdict ≡ Good → ⊥) → HasJudged (record old { entries = old.entries + 1 }) s (entries ++ e ∷ [])
observes_bad old e s entries judged bad = by old.verdict refl judged.reasons
  where
    by : (v : Verdict AnyLockLaw) → old.verdict ≡ v → AreReasonsOf s entries old.verdict old.reasons → HasJudged (record old { entries = old.entries + 1 }) s (entries ++ e ∷ [])
    by Good is reasons = absurd (bad is)
    by (Bad k l) is reasons =
        let at : AreReasonsAt s entries k l old.reasons = subst (λ v. AreReasonsOf s entries v old.reasons) is reasons in
        record {
          good = judged.good;
          count = ap (λ n. n + 1) judged.count ∙ sym (length-append entries (e ∷ []));
          verdict = is ∙ sym (verdict_bad s entries e k l (sym judged.verdict ∙ is));
          reasons = subst (λ v. AreReasonsOf s (entries ++ e ∷ []) v old.reasons) (sym is)
              (record { entry = at.entry; past = at.past; later = e ∷ at.later; splits = newest_first entries e ∙ ap (λ (l : Past). e ∷ l) at.splits; number = at.number; reported = at.reported; is = at.is; are = at.are });
          goes_on = λ good. absurd (bad good);
        }

-- the reasons, computed from the kept state after an entry: if the entry breaks a law, that state is unchanged
pub reasons_given : (k then : LockRunState) (s : Setup) (past : Past) (e : Entry) (law : Option AnyLockLaw) (r : Option Reasons) → k.setup ≡ s → Knows k past →
    ((l : AnyLockLaw) → law ≡ Some l → then ≡ k) → (law ≡ None → r ≡ None) → (Knows then past → AreReasonsIf law r then.setup past e) → AreReasonsIf law r s past e
reasons_given k then s past e None r setup knows same none some = none refl
reasons_given k then s past e (Some l) r setup knows same none some =
    let is : then ≡ k = same l refl in
    subst (λ (t : Setup). AreReasonsIf (Some l) r t past e) (ap (λ (x : LockRunState). x.setup) is ∙ setup) (some (subst (λ (x : LockRunState). Knows x past) (sym is) knows))
