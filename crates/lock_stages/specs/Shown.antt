-- How stages and refusals of marks are printed.
use Rattle.std.specs.Prelude.{ℕ, List, codes}
use Rattle.lock_stages.specs.declared.refusals.LockMarkRefusal.{LockMarkRefusal}
use Rattle.lock_stages.specs.declared.refusals.LockMarkRefusal.TheVariants as refusal
use Rattle.lock_stages.specs.declared.states.LockStage.{LockStage}
use Rattle.lock_stages.specs.declared.states.LockStage.TheVariants as at

-- a stage
abbrev pub lock_stage_text : LockStage → List ℕ
lock_stage_text at.Idle = codes "idle"
lock_stage_text at.Doorway = codes "doorway"
lock_stage_text at.Waiting = codes "waiting"
lock_stage_text at.Inside = codes "inside"
lock_stage_text at.Leaving = codes "leaving"

-- why marks are refused
abbrev pub lock_mark_refusal_text : LockMarkRefusal → List ℕ
lock_mark_refusal_text refusal.NotAlone = codes "not-alone"
lock_mark_refusal_text refusal.Busy = codes "busy"
lock_mark_refusal_text refusal.NotInDoorway = codes "not-in-doorway"
lock_mark_refusal_text refusal.NotTrying = codes "not-trying"
lock_mark_refusal_text refusal.NotInside = codes "not-inside"
lock_mark_refusal_text refusal.NotLeaving = codes "not-leaving"
lock_mark_refusal_text refusal.AccessOpen = codes "access-open"
