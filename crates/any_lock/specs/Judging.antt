-- The state of a judge after the entries that it has observed.
use Rattle.std.specs.Prelude.{◌≡◌, ◌<◌, ℕ, [], List, ◌∷◌, ◌++◌, length, reverse, Option, None, Some, Ok}
use Rattle.plain_store.specs.{Setup, checked}
use Rattle.model.specs.{Access, Entry, Past}
use Rattle.safe_monitor.specs.{AllAreOfThere, HasObserved as HasMonitored, MonitorState}
use Rattle.any_lock.specs.declared.reasons.Reasons.{Reasons}
use Rattle.any_lock.specs.declared.process_views.ProcessView.{ProcessView}
use Rattle.any_lock.specs.declared.any_lock_law.AnyLockLaw.{AnyLockLaw}
use Rattle.safe_monitor.specs.declared.verdicts.Verdict.{Verdict}
use Rattle.safe_monitor.specs.declared.verdicts.Verdict.TheVariants.{Good, Bad}
use Rattle.any_lock.specs.Keeping.{LockRunState, Knows}
use Rattle.any_lock.specs.Reasons.{AreReasons, doorway_with, entered}
use Rattle.any_lock.specs.ProcessViews.{process_view}
use Rattle.any_lock.specs.Laws.{first_broken}
use Rattle.safe_monitor.specs.Verdicts.{verdict_with}
use Rattle.any_lock.specs.Verdicts.{verdict_of}

-- a monitor of the law `safe`, the state kept for the other laws, the verdict so far, the number of observed entries, and the reasons of the verdict
pub record JudgeState : Type 0 where
  pub monitor : MonitorState
  pub kept : LockRunState
  pub verdict : Verdict AnyLockLaw
  pub entries : ℕ
  pub reasons : Option Reasons

-- the monitor and the kept state have both observed these entries of a record with this setup, and each access is to an existing bit
pub record BothObserved (j : JudgeState) (s : Setup) (past : Past) : Type 0 where
  pub monitored : j.monitor.setup ≡ s
  pub monitor : HasMonitored j.monitor past
  pub kept : j.kept.setup ≡ s
  pub knows : Knows j.kept past
  pub there : AllAreOfThere s past

-- these are the reasons of entry k of a record, which breaks law l first
pub record AreReasonsAt (s : Setup) (entries : List Entry) (k : ℕ) (l : AnyLockLaw) (reasons : Option Reasons) : Type 0 where
  pub entry : Entry
  pub past : Past
  pub later : Past
  pub splits : reverse entries ≡ later ++ entry ∷ past
  pub number : length past ≡ k
  pub reported : Reasons
  pub is : reasons ≡ Some reported
  pub are : AreReasons s past entry l reported

-- these are the reasons of a verdict on a record; a good verdict has none
abbrev pub AreReasonsOf : Setup → List Entry → Verdict AnyLockLaw → Option Reasons → Type 0
AreReasonsOf s entries Good reasons = reasons ≡ None
AreReasonsOf s entries (Bad k l) reasons = AreReasonsAt s entries k l reasons

-- this is the entry with which the doorway of a process in this state began, after any known past and with this access
abbrev pub ReportsDoorway : LockRunState → Option Access → ProcessView → Option ℕ → Type 0
ReportsDoorway k access at reported = (past : Past) (e : Entry) → e.access ≡ access → Knows k past → reported ≡ doorway_with past e at

-- this is the entry with which process p entered, if p exists
abbrev pub ReportsEntered : LockRunState → ℕ → Option (ℕ × ℕ) → Type 0
ReportsEntered k p reported = (past : Past) → p < k.setup.processes → Knows k past → reported ≡ entered p (process_view k.setup p past)

-- these are the reasons of an entry that breaks law l first
abbrev pub AreReasonsBy : AnyLockLaw → Reasons → Setup → Past → Entry → Type 0
AreReasonsBy l reported s past e = AreReasons s past e l reported

-- these are the reasons of an entry, if it breaks a law, and otherwise none
abbrev pub AreReasonsIf : Option AnyLockLaw → Option Reasons → Setup → Past → Entry → Type 0
AreReasonsIf None reasons s past e = reasons ≡ None
AreReasonsIf (Some l) reasons s past e = (reported : Reasons) × (reasons ≡ Some reported) × AreReasonsBy l reported s past e

-- if both have observed the entries before, this is the verdict after an entry with this number
abbrev pub Finds : JudgeState → ℕ → Entry → Verdict AnyLockLaw → Type 0
Finds j number e verdict = (s : Setup) (past : Past) → BothObserved j s past → verdict ≡ verdict_with number (first_broken s past e)

-- the reasons are then those of that entry
abbrev pub ReportsReasons : JudgeState → Entry → JudgeState → Type 0
ReportsReasons j e then = (s : Setup) (past : Past) → BothObserved j s past → AreReasonsIf (first_broken s past e) then.reasons s past e

-- both have then observed the entry, if the verdict is good
abbrev pub ObserveOn : JudgeState → Entry → Verdict AnyLockLaw → JudgeState → Type 0
ObserveOn j e verdict then = (s : Setup) (past : Past) → BothObserved j s past → verdict ≡ Good → BothObserved then s (e ∷ past)

-- The judge has observed these entries: it has the verdict on them and its reasons. While the verdict is good, the monitor and the kept state have observed them too.
pub record HasJudged (j : JudgeState) (s : Setup) (entries : List Entry) : Type 0 where
  pub good : checked s ≡ Ok tt
  pub count : j.entries ≡ length entries
  pub verdict : j.verdict ≡ verdict_of s entries
  pub reasons : AreReasonsOf s entries j.verdict j.reasons
  pub goes_on : j.verdict ≡ Good → BothObserved j s (reverse entries)

-- this holds of each list of entries that the judge has observed
abbrev pub OfJudged : JudgeState → (Setup → List Entry → Type 0) → Type 0
OfJudged j P = (s : Setup) (entries : List Entry) → HasJudged j s entries → P s entries

-- the judge has observed one more entry
abbrev pub JudgesOn : JudgeState → Entry → JudgeState → Type 0
JudgesOn j e then = OfJudged j (λ s entries. HasJudged then s (entries ++ e ∷ []))

-- these are the reasons of the verdict on these entries
abbrev pub IsExplained : Option Reasons → Setup → List Entry → Type 0
IsExplained reasons s entries = AreReasonsOf s entries (verdict_of s entries) reasons
