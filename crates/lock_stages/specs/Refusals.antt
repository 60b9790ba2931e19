-- The refusals of marks.
use Rattle.std.specs.Prelude.{◌==◌, Bool, true, false, not, ◌&&◌, ◌||◌, List, [], ◌∷◌, length, Option, None, Some, if◌then◌else◌}
use Rattle.trace.specs.{LockMark, first_that}
use Rattle.trace.specs.declared.marks.LockMark.TheVariants as mark
use Rattle.lock_stages.specs.declared.refusals.LockMarkRefusal.{LockMarkRefusal}
use Rattle.lock_stages.specs.declared.refusals.LockMarkRefusal.TheVariants as refusal
use Rattle.lock_stages.specs.declared.states.LockStage.{LockStage}
use Rattle.lock_stages.specs.declared.states.LockStage.TheVariants as at
use Rattle.lock_stages.specs.Entries.{LockEntry, LockPast, has_mark, is_call}
use Rattle.lock_stages.specs.States.{lock_stage, stage_after}

-- the process has no call
abbrev pub is_idle : LockStage → Bool
is_idle at.Idle = true
is_idle _ = false

-- it is in its doorway
abbrev pub is_in_doorway : LockStage → Bool
is_in_doorway at.Doorway = true
is_in_doorway _ = false

-- its doorway has ended, and it has not entered
abbrev pub is_waiting : LockStage → Bool
is_waiting at.Waiting = true
is_waiting _ = false

-- it is inside the critical section
abbrev pub is_inside : LockStage → Bool
is_inside at.Inside = true
is_inside _ = false

-- it has left the critical section
abbrev pub is_leaving : LockStage → Bool
is_leaving at.Leaving = true
is_leaving _ = false

-- of each mark the table of its refusals, at a stage of its process that has an access open or not
abbrev pub mark_refusal : LockStage → Bool → LockMark → Option LockMarkRefusal
mark_refusal stage is_open mark.Call = first_that ((not (is_idle stage), refusal.Busy) ∷ [])
mark_refusal stage is_open mark.Wait = first_that ((not (is_in_doorway stage), refusal.NotInDoorway) ∷ [])
mark_refusal stage is_open mark.Enter = first_that ((not (is_in_doorway stage || is_waiting stage), refusal.NotTrying) ∷ [])
mark_refusal stage is_open mark.Leave = first_that ((not (is_inside stage), refusal.NotInside) ∷ [])
mark_refusal stage is_open mark.Answer = first_that (
    (not (is_in_doorway stage || is_leaving stage), refusal.NotLeaving)
    ∷ (is_open, refusal.AccessOpen)
    ∷ [])

-- the refusal of the first refused mark; each mark follows the earlier ones
abbrev pub first_refusal : LockStage → Bool → List LockMark → Option LockMarkRefusal
first_refusal stage is_open [] = None
first_refusal stage is_open (m ∷ marks) = elim (mark_refusal stage is_open m) [
  | Some r ↦ Some r
  | None ↦ first_refusal (stage_after stage m) is_open marks
]

-- a call is made with an access or another mark
abbrev pub is_crowded : LockEntry → Bool
is_crowded e = has_mark is_call e && (e.accesses || not (length e.marks == 1))

-- the refusal of the marks of an entry, after whose access its process has an access open or not
abbrev pub refusal_of_marks : LockPast → Bool → LockEntry → Option LockMarkRefusal
refusal_of_marks past is_open e =
    if is_crowded e then Some refusal.NotAlone else
    first_refusal (lock_stage e.process past) is_open e.marks
