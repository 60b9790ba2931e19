-- What a good verdict means.
use Rattle.std.specs.Prelude.{◌≡◌, All, List, ◌∷◌, ◌++◌, reverse, None}
use Rattle.trace.specs.{TraceEntry, TracePast, TraceSetup}
use Rattle.lock_stages.specs.{EntersAlone, EntersInTurn, IsAloneInside}
use Rattle.trace_judge.specs.declared.verdicts.TraceVerdict.{TraceVerdict}
use Rattle.trace_judge.specs.declared.verdicts.TraceVerdict.TheVariants.{Good}
use Rattle.trace_judge.specs.declared.reasons.TraceReasons.{TraceReasons}
use Rattle.trace_judge.specs.declared.verdicts.TraceLaw.TheVariants.{Memory}
use Rattle.trace_memory.specs.{present}
use Rattle.trace_judge.specs.Laws.{first_broken, lock_part, lock_past}
use Rattle.trace_judge.specs.Reasons.{AreReasons, entry_reading}
use Rattle.trace_judge.specs.Verdicts.{verdict_of}

-- After an entry no two processes are inside together, and if it enters, it does so alone and in turn.
pub record IsSound (past : TracePast) (e : TraceEntry) : Type 0 where
  pub alone : IsAloneInside (lock_past (e ∷ past))  -- no two processes are inside
  pub enters_alone : EntersAlone (lock_past past) (lock_part e)  -- none enters while another is inside
  pub in_turn : EntersInTurn (lock_past past) (lock_part e)  -- none enters while another is ahead

-- Each entry of these is sound.
abbrev pub IsSoundThroughout : TracePast → Type 0
IsSoundThroughout past = (later earlier : TracePast) (e : TraceEntry) → past ≡ later ++ e ∷ earlier → IsSound earlier e

-- If this is a good verdict, each entry of these is sound.
abbrev pub MeansSound : TraceVerdict → List TraceEntry → Type 0
MeansSound verdict entries = verdict ≡ Good → IsSoundThroughout (reverse entries)

-- Each entry of a good trace is sound.
abbrev pub GoodIsSound : Type 0
GoodIsSound = (s : TraceSetup) (entries : List TraceEntry) → MeansSound (verdict_of s entries) entries

-- An entry that breaks the law of memory keeps all laws with each value that its reasons name.
abbrev pub MaysKeepAllLaws : Type 0
MaysKeepAllLaws = (s : TraceSetup) (past : TracePast) (e : TraceEntry) (r : TraceReasons) → AreReasons s past e Memory r → All (λ v. first_broken s past (entry_reading v e) ≡ None) (present r.may)
