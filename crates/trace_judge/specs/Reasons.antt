-- The reasons of an entry that breaks a law, by looking back.
use Rattle.std.specs.Prelude.{◌≡◌, ℕ, nat_lt, Bool, List, [], filter, length, cond, option_map, Option, None, Some, is_none, is_some}
use Rattle.trace.specs.{TraceEntry, TracePast, TraceSetup, access_reading}
use Rattle.lock_stages.specs.{AreSince, LockStage, ahead_since, inside_since, lock_passage}
use Rattle.lock_stages.specs.model.{first_of}
use Rattle.trace_memory.specs.{allowed_values, if_few, number_of, opened, present, read_ended, register_of}
use Rattle.trace_judge.specs.declared.reasons.TraceReasons.{TraceReasons}
use Rattle.trace_judge.specs.declared.reasons.TraceRefused.{TraceRefused}
use Rattle.trace_judge.specs.declared.reasons.TraceRefused.TheVariants as by
use Rattle.trace_judge.specs.declared.verdicts.TraceLaw.{TraceLaw}
use Rattle.trace_judge.specs.declared.verdicts.TraceLaw.TheVariants as law
use Rattle.trace_judge.specs.Laws.{first_broken, lock_past, refusal_of_access, refusal_of_marks, stage}

-- the refusal of its access, or else of its marks, whatever the law
abbrev pub refused : TraceSetup → TracePast → TraceEntry → Option TraceRefused
refused s past e = elim (refusal_of_access s past e) [
  | Some r ↦ Some (by.Access r)
  | None ↦ option_map by.Marks (refusal_of_marks past e)
]

-- the stage of a process that exists
abbrev pub stage_of : TraceSetup → TracePast → ℕ → Option LockStage
stage_of s past p = cond (nat_lt p s.processes) (Some (stage p past)) None

-- the entry with which its open access began
abbrev pub opened_at : TraceSetup → TracePast → ℕ → Option ℕ
opened_at s past p = cond (nat_lt p s.processes) (option_map number_of (opened p past)) None

-- the doorway of its process began there, in the past or with its access
abbrev pub doorway_of : TracePast → TraceEntry → Option ℕ
doorway_of past e = first_of (lock_passage (lock_past past) e.process).doorway (cond (is_some e.access) (Some (length past)) None)

-- an entry whose access reads this value
abbrev pub entry_reading : ℕ → TraceEntry → TraceEntry
entry_reading v e = record e { access = option_map (access_reading v) e.access }

-- an entry with this value keeps all laws
abbrev pub keeps_with : TraceSetup → TracePast → TraceEntry → ℕ → Bool
keeps_with s past e v = is_none (first_broken s past (entry_reading v e))

-- of at most two allowed values those with which the entry keeps all laws
abbrev pub mays_of : TraceSetup → TracePast → TraceEntry → List ℕ
mays_of s past e = elim e.access [
  | None ↦ []
  | Some a ↦ filter (keeps_with s past e) (if_few (allowed_values s.memory (register_of s a.cell) (read_ended past e.process a)))
]

-- what is given with each law
abbrev pub mays_by : TraceLaw → TraceSetup → TracePast → TraceEntry → List ℕ
mays_by law.Memory s past e = mays_of s past e
mays_by _ s past e = []

abbrev pub inside_by : TraceLaw → TraceSetup → TracePast → TraceEntry → ℕ → Option ℕ
inside_by law.Together s past e q = inside_since (lock_passage (lock_past past)) s.processes e.process q
inside_by _ s past e q = None

abbrev pub waits_by : TraceLaw → TraceSetup → TracePast → TraceEntry → ℕ → Option ℕ
waits_by law.Overtaken s past e q = ahead_since (lock_passage (lock_past past)) s.processes e.process q
waits_by _ s past e q = None

abbrev pub doorway_by : TraceLaw → TraceSetup → TracePast → TraceEntry → Option ℕ
doorway_by law.Overtaken s past e = doorway_of past e
doorway_by _ s past e = None

-- these are the reasons of an entry that breaks this law first
pub record AreReasons (s : TraceSetup) (past : TracePast) (e : TraceEntry) (l : TraceLaw) (r : TraceReasons) : Type 0 where
  pub may : present r.may ≡ mays_by l s past e
  pub refused : r.refused ≡ refused s past e
  pub stage : r.stage ≡ stage_of s past e.process
  pub opened : r.opened ≡ opened_at s past e.process
  pub inside : AreSince r.inside (inside_by l s past e)
  pub waits : AreSince r.waits (waits_by l s past e)
  pub doorway : r.doorway ≡ doorway_by l s past e

-- these are given as the reasons of such an entry
pub record Explains (s : TraceSetup) (past : TracePast) (e : TraceEntry) (l : TraceLaw) (reasons : Option TraceReasons) : Type 0 where
  pub given : TraceReasons
  pub is : reasons ≡ Some given
  pub are : AreReasons s past e l given
