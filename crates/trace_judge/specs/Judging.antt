-- What a judge keeps of the entries that it has observed.
use Rattle.std.specs.Prelude.{◌≡◌, ℕ, [], List, ◌∷◌, ◌++◌, length, reverse, Option, None, Some, true}
use Rattle.trace.specs.{TraceEntry, TracePast, TraceSetup, is_trace_setup}
use Rattle.trace_judge.specs.declared.reasons.TraceReasons.{TraceReasons}
use Rattle.trace_judge.specs.declared.verdicts.TraceLaw.{TraceLaw}
use Rattle.trace_judge.specs.declared.verdicts.TraceVerdict.{TraceVerdict}
use Rattle.trace_judge.specs.declared.verdicts.TraceVerdict.TheVariants.{Good, Bad}
use Rattle.trace_judge.specs.Keeping.{HasSeen, TraceState}
use Rattle.trace_judge.specs.Laws.{first_broken}
use Rattle.trace_judge.specs.Reasons.{AreReasons}
use Rattle.trace_judge.specs.Verdicts.{verdict_of}

-- the state, the verdict so far, the number of entries, and the reasons
pub record JudgeState : Type 0 where
  pub state : TraceState
  pub verdict : TraceVerdict
  pub entries : ℕ
  pub reasons : Option TraceReasons

-- these are the reasons of entry k of a trace, which breaks law l first
pub record AreReasonsAt (s : TraceSetup) (entries : List TraceEntry) (k : ℕ) (l : TraceLaw) (reasons : Option TraceReasons) : Type 0 where
  pub entry : TraceEntry
  pub past : TracePast
  pub later : TracePast
  pub splits : reverse entries ≡ later ++ entry ∷ past
  pub number : length past ≡ k
  pub broken : first_broken s past entry ≡ Some l
  pub given : TraceReasons
  pub is : reasons ≡ Some given
  pub are : AreReasons s past entry l given

-- these are the reasons of a verdict on a trace: a good one has none
abbrev pub AreReasonsOf : TraceSetup → List TraceEntry → TraceVerdict → Option TraceReasons → Type 0
AreReasonsOf s entries Good reasons = reasons ≡ None
AreReasonsOf s entries (Bad k l) reasons = AreReasonsAt s entries k l reasons

-- It has observed these entries: it has the verdict on them and its reasons, and as long as that is good the state goes on.
pub record HasJudged (j : JudgeState) (s : TraceSetup) (entries : List TraceEntry) : Type 0 where
  pub good : is_trace_setup s ≡ true
  pub count : j.entries ≡ length entries
  pub verdict : j.verdict ≡ verdict_of s entries
  pub reasons : AreReasonsOf s entries j.verdict j.reasons
  pub setup : j.state.memory.setup ≡ s
  pub seen : j.verdict ≡ Good → HasSeen j.state (reverse entries)

-- this holds of each list of entries that it has judged
abbrev pub OfJudged : JudgeState → (TraceSetup → List TraceEntry → Type 0) → Type 0
OfJudged j P = (s : TraceSetup) (entries : List TraceEntry) → HasJudged j s entries → P s entries

-- it goes on by an entry
abbrev pub JudgesOn : JudgeState → TraceEntry → JudgeState → Type 0
JudgesOn j e then = OfJudged j (λ s entries. HasJudged then s (entries ++ e ∷ []))

-- these are the reasons of its verdict
abbrev pub IsExplained : Option TraceReasons → TraceSetup → List TraceEntry → Type 0
IsExplained reasons s entries = AreReasonsOf s entries (verdict_of s entries) reasons
