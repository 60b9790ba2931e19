-- Traces in several memories.
use Rattle.std.specs.Prelude.{◌≡◌, ◌≤◌, Bool, true, false, IsTrue, List, None, Some}
use Rattle.std.specs.List.{list_all}
use Rattle.trace.specs.{CellMove, TraceEntry, TraceMemory, TracePast, TraceSetup, is_trace_setup}
use Rattle.trace.specs.declared.accesses.CellMove.TheVariants.{Set, Get}
use Rattle.trace.specs.declared.setups.TraceMemory.TheVariants.{Safe, Regular, Atomic}
use Rattle.trace_judge.specs.declared.reasons.TraceReasons.{TraceReasons}
use Rattle.trace_judge.specs.declared.verdicts.TraceLaw.{TraceLaw}
use Rattle.trace_judge.specs.declared.verdicts.TraceVerdict.{TraceVerdict}
use Rattle.trace_judge.specs.declared.verdicts.TraceVerdict.TheVariants.{Good, Bad}
use Rattle.trace_judge.specs.Reasons.{AreReasons}
use Rattle.trace_judge.specs.Verdicts.{verdict_after, verdict_of}

-- a setup with this memory
abbrev pub with_memory : TraceMemory → TraceSetup → TraceSetup
with_memory m s = record s { memory = m }

-- regular memory is weaker than atomic memory, and safe memory is weaker than both
abbrev pub IsWeaker : TraceMemory → TraceMemory → Type 0
IsWeaker Regular Atomic = Unit {0}
IsWeaker Safe Atomic = Unit {0}
IsWeaker Safe Regular = Unit {0}
IsWeaker _ _ = ⊥

-- a verdict is not earlier than another: it is good if that is, and its bad entry is not lower
abbrev pub IsNotEarlier : TraceVerdict → TraceVerdict → Type 0
IsNotEarlier verdict Good = verdict ≡ Good
IsNotEarlier Good (Bad k l) = Unit {0}
IsNotEarlier (Bad j m) (Bad k l) = k ≤ j

-- In a weaker memory the verdict is not earlier.
abbrev pub WeakerIsNotEarlier : Type 0
WeakerIsNotEarlier = (s : TraceSetup) (entries : List TraceEntry) (weak strong : TraceMemory) → IsWeaker weak strong →
    IsNotEarlier (verdict_of (with_memory weak s) entries) (verdict_of (with_memory strong s) entries)

-- an access is a write or a read in one entry
abbrev pub is_whole : CellMove → Bool
is_whole (Set v) = true
is_whole (Get v) = true
is_whole _ = false

-- an entry has no other access
abbrev pub has_whole : TraceEntry → Bool
has_whole e = elim e.access [ None ↦ true | Some a ↦ is_whole a.how ]

-- If all accesses are whole, two memories give the same verdict, and behind good entries the same reasons.
pub record SameJudgement (s : TraceSetup) (m other : TraceMemory) (past : TracePast) : Type 0 where
  pub verdict : verdict_after (with_memory m s) past ≡ verdict_after (with_memory other s) past
  pub reasons : verdict_after (with_memory m s) past ≡ Good → (e : TraceEntry) (l : TraceLaw) (r : TraceReasons) → IsTrue (has_whole e) →
      AreReasons (with_memory m s) past e l r → AreReasons (with_memory other s) past e l r

-- In all memories that have such registers.
abbrev pub WholeIsSame : Type 0
WholeIsSame = (s : TraceSetup) (past : TracePast) (m other : TraceMemory) → IsTrue (is_trace_setup (with_memory Regular s)) → IsTrue (list_all has_whole past) → SameJudgement s m other past
