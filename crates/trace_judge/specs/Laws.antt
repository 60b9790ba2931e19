-- The laws that an entry of a trace keeps, by looking back over the entries before it.
use Rattle.std.specs.Prelude.{ℕ, nat_lt, Bool, false, not, List, [], ◌∷◌, map, Option, None, Some, is_some}
use Rattle.trace.specs.{TraceEntry, TracePast, TraceSetup, first_that}
use Rattle.lock_stages.specs.{LockEntry, LockMarkRefusal, LockPast, LockStage, breaks_overtaken as overtakes, breaks_together as joins, is_idle, lock_entry, lock_stage, refusal_of_marks as marks_refused}
use Rattle.trace_memory.specs.{CellRefusal, cell_refusal, opened, reads_wrongly}
use Rattle.trace_memory.specs.declared.refusals.CellRefusal.TheVariants as refusal
use Rattle.trace_judge.specs.declared.verdicts.TraceLaw.{TraceLaw}
use Rattle.trace_judge.specs.declared.verdicts.TraceLaw.TheVariants as law

-- an entry, as far as stages depend on it
abbrev pub lock_part : TraceEntry → LockEntry
lock_part e = lock_entry e.process (is_some e.access) e.marks

abbrev pub lock_past : TracePast → LockPast
lock_past past = map lock_part past

-- the stage of a process
abbrev pub stage : ℕ → TracePast → LockStage
stage p past = lock_stage p (lock_past past)

-- the refusal of the access of an entry; without an access its process may not exist
abbrev pub refusal_of_access : TraceSetup → TracePast → TraceEntry → Option CellRefusal
refusal_of_access s past e = elim e.access [
  | None ↦ first_that ((not (nat_lt e.process s.processes), refusal.NoProcess) ∷ [])
  | Some a ↦ cell_refusal s past e.process (is_idle (stage e.process past)) a
]

-- the process of an entry has an access open after that of the entry
abbrev pub leaves_open : TracePast → TraceEntry → Bool
leaves_open past e = is_some (opened e.process (e ∷ past))

-- the refusal of its marks
abbrev pub refusal_of_marks : TracePast → TraceEntry → Option LockMarkRefusal
refusal_of_marks past e = marks_refused (lock_past past) (leaves_open past e) (lock_part e)

-- Access: it is not refused.
abbrev pub breaks_access : TraceSetup → TracePast → TraceEntry → Bool
breaks_access s past e = is_some (refusal_of_access s past e)

-- Memory: a read gives a value that it may give.
abbrev pub breaks_memory : TraceSetup → TracePast → TraceEntry → Bool
breaks_memory s past e = elim e.access [ None ↦ false | Some a ↦ reads_wrongly s past e.process a ]

-- Marks: none is refused.
abbrev pub breaks_marks : TracePast → TraceEntry → Bool
breaks_marks past e = is_some (refusal_of_marks past e)

-- Together: no process enters while another is inside.
abbrev pub breaks_together : TraceSetup → TracePast → TraceEntry → Bool
breaks_together s past e = joins s.processes (lock_past past) (lock_part e)

-- Overtaken: no process enters while another is ahead of it.
abbrev pub breaks_overtaken : TraceSetup → TracePast → TraceEntry → Bool
breaks_overtaken s past e = overtakes s.processes (lock_past past) (lock_part e)

-- the table of laws that an entry breaks
abbrev pub laws_broken : TraceSetup → TracePast → TraceEntry → List (Bool × TraceLaw)
laws_broken s past e =
    (breaks_access s past e, law.Access)
    ∷ (breaks_memory s past e, law.Memory)
    ∷ (breaks_marks past e, law.Marks)
    ∷ (breaks_together s past e, law.Together)
    ∷ (breaks_overtaken s past e, law.Overtaken)
    ∷ []

-- the first law that it breaks
abbrev pub first_broken : TraceSetup → TracePast → TraceEntry → Option TraceLaw
first_broken s past e = first_that (laws_broken s past e)
