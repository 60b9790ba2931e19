-- The verdict with one more entry.
use Rattle.std.proofs.Common.{◌≡◌, ℕ, ◌+◌, ◌++◌, Bool, true, false, List, [], ◌∷◌, length, reverse, Ok, Option, Some, None, refl, ap, sym, subst, ◌∙◌, arith}
use Rattle.std.proofs.lemmas.List.{length-append, length-reverse}
use Rattle.plain_store.specs.{Setup, checked}
use Rattle.model.specs.{Entry, Past}
use Rattle.auditor.specs.safe_monitor.{AllAreOfThere, HasObserved as HasMonitored, KeepsSafe, MatchBool, MonitorState}
use Rattle.auditor.specs.{AllKeep, AuditorState, BreaksFirst, HasObserved, IsAt, IsBadAt, IsObserved, IsVerdict, Law, Verdict}
use Rattle.auditor.specs.safe_monitor.declared.verdicts.Law.TheVariants as law
use Rattle.auditor.specs.safe_monitor.declared.verdicts.Verdict.TheVariants.{Good, Bad}
use Rattle.auditor.proofs.Firsts.{breaks_safe, breaks_then}
use Rattle.auditor.proofs.Whole.{there_of}
use Rattle.judge.specs.{AreReasons, BothObserved, GivesReasons, HasAudited, HasJudged, JudgeState, Writes, found, reason_lines}
use Rattle.judge.specs.ThisLockVerdicts.{newest_first, newest_is_bad, stays_bad}
use Rattle.judge.proofs.Splits.{at_before, at_newest, one_place}

-- an entry after a good record that breaks a law first
first_bad : (s : Setup) (entries : List Entry) (e : Entry) (l : Law) → AllKeep s (reverse entries) → BreaksFirst l s (reverse entries) e → IsBadAt s (entries ++ e ∷ []) (length entries) l
first_bad s entries e l kept breaks = record {
  entry = e;
  past = reverse entries;
  at = record { later = []; splits = newest_first entries e; number = length-reverse entries };
  before = kept;
  breaks = breaks;
}

-- one more entry after a good record, by the findings of a monitor and an auditor
pub found_is : (s : Setup) (entries : List Entry) (e : Entry) (is_safe : Bool) (observed : Option Law) (then : AuditorState) → AllKeep s (reverse entries) →
    MatchBool is_safe (KeepsSafe s (reverse entries) e) (KeepsSafe s (reverse entries) e → ⊥) → IsObserved s (reverse entries) e then observed → IsVerdict s (entries ++ e ∷ []) (found (length entries) is_safe observed)
found_is s entries e false observed then kept safe is = first_bad s entries e law.Safe kept (breaks_safe s (reverse entries) e false refl safe)
found_is s entries e true (Some l) then kept safe is = first_bad s entries e l kept (breaks_then s (reverse entries) e l true refl safe is)
found_is s entries e true None then kept safe is = subst (AllKeep s) (sym (newest_first entries e)) (is.0, kept)

-- the verdict is good only if the auditor found no law broken
pub found_good : (k : ℕ) (is_safe : Bool) (observed : Option Law) → found k is_safe observed ≡ Good → observed ≡ None
found_good k false observed is = absurd (cc)
found_good k true (Some l) is = absurd (cc)
found_good k true None is = refl

-- the findings of a monitor and an auditor on one more entry
pub record AreReported (j : JudgeState) (e : Entry) (is_safe : Bool) (w : MonitorState) (observed : Option Law) (a : AuditorState) : Type 0 where
  pub monitored : w.setup ≡ j.monitor.setup
  pub monitor : (past : Past) → HasMonitored j.monitor past → HasMonitored w (e ∷ past)
  pub safe : (past : Past) → HasMonitored j.monitor past → AllAreOfThere j.monitor.setup past → MatchBool is_safe (KeepsSafe j.monitor.setup past e) (KeepsSafe j.monitor.setup past e → ⊥)
  pub audited : observed ≡ None → a.core.setup ≡ j.auditor.core.setup
  pub auditor : (past : Past) → HasObserved j.auditor past → IsObserved j.auditor.core.setup past e a observed
  pub stayed : (l : Law) → observed ≡ Some l → a ≡ j.auditor

-- after a good record this is the verdict
pub reported_verdict : (j : JudgeState) (e : Entry) (is_safe : Bool) (w : MonitorState) (observed : Option Law) (a : AuditorState) → AreReported j e is_safe w observed a → (s : Setup) (entries : List Entry) → j.verdict ≡ Good → HasJudged j s entries →
    IsVerdict s (entries ++ e ∷ []) (found j.entries is_safe observed)
reported_verdict j e is_safe w observed a reported s entries good judged =
    let both : BothObserved j s (reverse entries) = judged.goes_on good in
    let past : Past = reverse entries in
    let kept : AllKeep s past = subst (IsVerdict s entries) good judged.verdict in
    let there : AllAreOfThere s past = there_of s judged.good past kept in
    let safe = subst (λ (t : Setup). MatchBool is_safe (KeepsSafe t past e) (KeepsSafe t past e → ⊥)) both.monitored (reported.safe past both.monitor (subst (λ (t : Setup). AllAreOfThere t past) (sym both.monitored) there)) in
    let is = subst (λ (t : Setup). IsObserved t past e a observed) both.audited (reported.auditor past both.auditor) in
    subst (λ n. IsVerdict s (entries ++ e ∷ []) (found n is_safe observed)) (sym judged.count) (found_is s entries e is_safe observed a kept safe is)

-- if the verdict is good, both have observed the entry
pub reported_goes_on : (j : JudgeState) (e : Entry) (is_safe : Bool) (w : MonitorState) (observed : Option Law) (a : AuditorState) → AreReported j e is_safe w observed a → (s : Setup) (entries : List Entry) → j.verdict ≡ Good → HasJudged j s entries → found j.entries is_safe observed ≡ Good →
    BothObserved (record { monitor = w; auditor = a; verdict = j.verdict; entries = j.entries }) s (reverse (entries ++ e ∷ []))
reported_goes_on j e is_safe w observed a reported s entries good judged is =
    let both : BothObserved j s (reverse entries) = judged.goes_on good in
    let past : Past = reverse entries in
    let none : observed ≡ None = found_good j.entries is_safe observed is in
    let next : IsObserved j.auditor.core.setup past e a None = subst (λ (h : Option Law). IsObserved j.auditor.core.setup past e a h) none (reported.auditor past both.auditor) in
    subst (λ (l : Past). BothObserved (record { monitor = w; auditor = a; verdict = j.verdict; entries = j.entries }) s l) (sym (newest_first entries e)) (record {
      monitored = reported.monitored ∙ both.monitored;
      monitor = reported.monitor past both.monitor;
      audited = reported.audited none ∙ both.audited;
      auditor = next.1;
    })

-- an auditor that finds no law broken has observed an entry that keeps them all, and so the law `Safe`
found_none : (k : ℕ) (is_safe : Bool) (s : Setup) (past : Past) (e : Entry) (a : AuditorState) → MatchBool is_safe (KeepsSafe s past e) (KeepsSafe s past e → ⊥) → IsObserved s past e a None → found k is_safe None ≡ Good
found_none k true s past e a safe observed = refl
found_none k false s past e a safe observed = absurd (safe (observed.0 law.Safe))

-- if the verdict is bad, the auditor is unchanged
pub reported_stays : (j : JudgeState) (e : Entry) (is_safe : Bool) (w : MonitorState) (observed : Option Law) (a : AuditorState) → AreReported j e is_safe w observed a → (s : Setup) (entries : List Entry) → j.verdict ≡ Good → HasJudged j s entries → (found j.entries is_safe observed ≡ Good → ⊥) → a ≡ j.auditor
reported_stays j e is_safe w (Some l) a reported s entries good judged bad = reported.stayed l refl
reported_stays j e is_safe w None a reported s entries good judged bad =
    let both : BothObserved j s (reverse entries) = judged.goes_on good in
    let past : Past = reverse entries in
    let there : AllAreOfThere s past = there_of s judged.good past (subst (IsVerdict s entries) good judged.verdict) in
    let safe = subst (λ (t : Setup). MatchBool is_safe (KeepsSafe t past e) (KeepsSafe t past e → ⊥)) both.monitored (reported.safe past both.monitor (subst (λ (t : Setup). AllAreOfThere t past) (sym both.monitored) there)) in
    let is = subst (λ (t : Setup). IsObserved t past e a None) both.audited (reported.auditor past both.auditor) in
    absurd (bad (found_none j.entries is_safe s past e a safe is))

-- The state of a judge.

-- one more entry was observed, and is to be counted
abbrev pub ObservesOn : JudgeState → Entry → JudgeState → Type 0
ObservesOn old e j = (s : Setup) (entries : List Entry) → HasJudged old s entries → HasJudged (record j { entries = j.entries + 1 }) s (entries ++ e ∷ [])

one_more : (n : ℕ) (entries : List Entry) (e : Entry) → n ≡ length entries → n + 1 ≡ length (entries ++ e ∷ [])
one_more n entries e count = omega (arith, count, length-append entries (e ∷ []))

-- one more entry after a good record, with the verdict on it
pub observes_good : (old now : JudgeState) (e : Entry) (v : Verdict Law) → old.verdict ≡ Good → now.entries ≡ old.entries → ((s : Setup) (entries : List Entry) → old.verdict ≡ Good → HasJudged old s entries → IsVerdict s (entries ++ e ∷ []) v) →
    ((s : Setup) (entries : List Entry) → old.verdict ≡ Good → HasJudged old s entries → v ≡ Good → BothObserved now s (reverse (entries ++ e ∷ []))) →
    ((s : Setup) (entries : List Entry) → old.verdict ≡ Good → HasJudged old s entries → (v ≡ Good → ⊥) → now.auditor ≡ old.auditor) → ObservesOn old e (record now { verdict = v })
observes_good old now e v good same verdict goes_on stays s entries judged = record {
  good = judged.good;
  count = one_more now.entries entries e (same ∙ judged.count);
  verdict = verdict s entries good judged;
  goes_on = λ still. let both : BothObserved now s (reverse (entries ++ e ∷ [])) = goes_on s entries good judged still in record { monitored = both.monitored; monitor = both.monitor; audited = both.audited; auditor = both.auditor };
  stays = λ k l x past bad at.
      let both : BothObserved old s (reverse entries) = judged.goes_on good in
      let kept : IsVerdict s entries Good = subst (IsVerdict s entries) good judged.verdict in
      let is : IsVerdict s (entries ++ e ∷ []) (Bad k l) = subst (IsVerdict s (entries ++ e ∷ [])) bad (verdict s entries good judged) in
      let place : k ≡ length entries = newest_is_bad s entries e k l kept is in
      let before : past ≡ reverse entries = (one_place (entries ++ e ∷ []) (length entries) x e past (reverse entries) (subst (λ m. IsAt (entries ++ e ∷ []) m x past) place at) (at_newest entries e)).1 in
      let stayed : now.auditor ≡ old.auditor = stays s entries good judged (λ fine. let no : Bad k l ≡ Good = sym bad ∙ fine in cc) in
      subst (λ (l : Past). HasAudited now.auditor s l) (sym before)
      (subst (λ (a : AuditorState). HasAudited a s (reverse entries)) (sym stayed) (record { setup = both.audited; observed = both.auditor }));
}

-- one more entry after a bad record
pub observes_bad : (old : JudgeState) (e : Entry) → (old.verdict ≡ Good → ⊥) → ObservesOn old e old
observes_bad old e bad s entries judged = record {
  good = judged.good;
  count = one_more old.entries entries e judged.count;
  verdict = still old.verdict bad judged.verdict;
  goes_on = λ good. absurd (bad good);
  stays = λ k l x past is at.
      let found : IsBadAt s entries k l = subst (IsVerdict s entries) is judged.verdict in
      let before : past ≡ found.past = (one_place (entries ++ e ∷ []) k x found.entry past found.past at (at_before entries k found.entry e found.past found.at)).1 in
      subst (λ (l : Past). HasAudited old.auditor s l) (sym before) (judged.stays k l found.entry found.past is found.at);
}
  where
    still : (v : Verdict Law) → (v ≡ Good → ⊥) → IsVerdict s entries v → IsVerdict s (entries ++ e ∷ []) v
    still Good bad is = absurd (bad refl)
    still (Bad k l) bad is = stays_bad s entries e k l is

-- before the first entry
pub judges_none : (j : JudgeState) (s : Setup) → checked s ≡ Ok tt → j.entries ≡ 0 → j.verdict ≡ Good → BothObserved j s [] → HasJudged j s []
judges_none j s good count verdict both = record {
  good = good;
  count = count;
  verdict = subst (IsVerdict s []) (sym verdict) tt;
  goes_on = λ _. both;
  stays = λ k l e past bad at. let no : Bad k l ≡ Good = sym bad ∙ verdict in cc;
}

-- the lines that are written for a bad entry are those of its reasons
pub gives_reasons : (j : JudgeState) (n : ℕ) (e : Entry) (lines : List ℕ) → Writes j.auditor (λ s past. reason_lines s past n e) [] lines → GivesReasons HasJudged (λ (j : JudgeState). j.verdict) AreReasons j n e lines
gives_reasons j n e lines writes s entries past k l judged bad at few =
    let audited : HasAudited j.auditor s past = judged.stays k l e past bad at in
    writes past audited.observed few ∙ ap (λ (s : Setup). reason_lines s past n e) audited.setup
