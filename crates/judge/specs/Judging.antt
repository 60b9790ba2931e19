-- The state of a judge after the entries that it has observed.
use Rattle.std.specs.Prelude.{◌≡◌, ℕ, Bool, true, false, List, [], ◌∷◌, ◌++◌, length, reverse, Option, Ok}
use Rattle.plain_store.specs.{Setup, checked}
use Rattle.model.specs.{Entry, Past}
use Rattle.auditor.specs.safe_monitor.{HasObserved as HasMonitored, MonitorState, verdict_with}
use Rattle.auditor.specs.{AuditorState, HasObserved, IsAt, IsVerdict, Law, Verdict}
use Rattle.auditor.specs.safe_monitor.declared.verdicts.Law.TheVariants.{Safe}
use Rattle.auditor.specs.safe_monitor.declared.verdicts.Verdict.TheVariants.{Good, Bad}

-- a monitor, an auditor, the verdict so far, and the number of entries observed
pub record JudgeState : Type 0 where
  pub monitor : MonitorState
  pub auditor : AuditorState
  pub verdict : Verdict Law
  pub entries : ℕ

-- both have observed these entries of a record with this setup
pub record BothObserved (j : JudgeState) (s : Setup) (past : Past) : Type 0 where
  pub monitored : j.monitor.setup ≡ s
  pub monitor : HasMonitored j.monitor past
  pub audited : j.auditor.core.setup ≡ s
  pub auditor : HasObserved j.auditor past

-- an auditor has observed these entries of a record with this setup
pub record HasAudited (a : AuditorState) (s : Setup) (past : Past) : Type 0 where
  pub setup : a.core.setup ≡ s
  pub observed : HasObserved a past

-- A judge has observed these entries, and its verdict is the one on them. While it is good, the monitor and the auditor have observed all entries; once it is bad, the auditor has observed those before the bad one.
pub record HasJudged (j : JudgeState) (s : Setup) (entries : List Entry) : Type 0 where
  pub good : checked s ≡ Ok tt
  pub count : j.entries ≡ length entries
  pub verdict : IsVerdict s entries j.verdict
  pub goes_on : j.verdict ≡ Good → BothObserved j s (reverse entries)
  pub stays : (k : ℕ) (l : Law) (e : Entry) (past : Past) → j.verdict ≡ Bad k l → IsAt entries k e past → HasAudited j.auditor s past

-- the verdict with one more entry, if that on the entries before it is good
abbrev pub IsNextVerdict : JudgeState → Entry → Verdict Law → Type 0
IsNextVerdict old e verdict = (s : Setup) (entries : List Entry) → old.verdict ≡ Good → HasJudged old s entries → IsVerdict s (entries ++ e ∷ []) verdict

-- if the verdict is good too, both have observed the entry
abbrev pub BothObserveOneMore : JudgeState → Entry → Verdict Law → JudgeState → Type 0
BothObserveOneMore old e verdict new = (s : Setup) (entries : List Entry) → old.verdict ≡ Good → HasJudged old s entries → verdict ≡ Good → BothObserved new s (reverse (entries ++ e ∷ []))

-- if the verdict is bad, the auditor is unchanged
abbrev pub StaysBefore : JudgeState → Entry → Verdict Law → JudgeState → Type 0
StaysBefore old e verdict new = (s : Setup) (entries : List Entry) → old.verdict ≡ Good → HasJudged old s entries → (verdict ≡ Good → ⊥) → new.auditor ≡ old.auditor

-- the verdict with entry k, if that on the entries before it is good, by the findings of a monitor and an auditor
abbrev pub found : ℕ → Bool → Option Law → Verdict Law
found k false law = Bad k Safe
found k true law = verdict_with k law
