-- A process: its work and its last call, and how its events change them.
use Rattle.std.specs.Prelude.{◌≡◌, ℕ, Bool, true, false, ◌&&◌, ◌==◌, nat_le, cond, if◌then◌else◌, ◌*◌, ◌+◌, ◌-◌, List, [], ◌∷◌, length, Option, None, Some, option_map}
use Rattle.plain_store.specs.{Command, Setup}
use Rattle.model.specs.{AsksImage, Call, Change, Event, Mark, Part, Past, Raises, Reading, Refusal, Run, Stage, WritesCommit, Writing, call_number, closing_stage, enter, first_marks, is_call, is_fresh, is_over, last_command, newest_stamp, own, pending_at, read_at, refused_at, stage_at, width, withdrawing}
use Rattle.model.specs.declared.refusals.Refusal.TheVariants.{CallsFull, Memory}
use Rattle.model.specs.declared.stages.Stage.TheVariants as stage
use Rattle.laws.specs.{Closes, Doing, Lies, Rests, Runs, call, cut_of, does_then, doing, marks_with}

-- a process: its work and its last call
pub record ProcessState : Type 0 where
  pub setup : Setup
  pub process : ℕ
  pub doing : Doing
  pub command : Command
  pub number : ℕ

-- the process p after a past
abbrev pub process_after : Setup → Past → ℕ → ProcessState
process_after s past p = record { setup = s; process = p; doing = doing s p past; command = last_command (own p past); number = call_number s (own p past) }

-- the stage of a process that does this
abbrev pub stage_doing : Doing → Stage
stage_doing Rests = stage.Idle
stage_doing Lies = stage.Down
stage_doing (Runs command number at) = stage_at at
stage_doing (Closes command number at) = closing_stage at

-- the process has an access to make: it runs, or its memory unit works
abbrev pub may_step : Doing → Bool
may_step Rests = false
may_step Lies = false
may_step _ = true

-- the process may fail: it is neither settling nor down
abbrev pub may_fail : Doing → Bool
may_fail d = elim (stage_doing d) [ stage.Settling ↦ false | stage.Down ↦ false | _ ↦ true ]

-- THE PROCESS AFTER AN EVENT OF ITS OWN

-- the process after a call has begun
abbrev pub called : ProcessState → Command → ℕ → ProcessState
called now command number = record now {
  doing = Runs command number (enter (call now.setup now.process command number) Raises);
  command = command;
  number = number;
}

-- the process after its next access
abbrev pub stepped : ProcessState → (flick value : Bool) → ProcessState
stepped now flick value = record now { doing = does_then now.setup now.process now.doing flick value }

-- the marks on this access
abbrev pub marks_on : ProcessState → (flick value : Bool) → List Mark
marks_on now flick value = marks_with now.setup now.process now.doing flick value

-- the process after it gave up waiting
abbrev pub withdrawn : ProcessState → ProcessState
withdrawn now = record now { doing = Closes now.command now.number (withdrawing (call now.setup now.process now.command now.number)) }

-- the process after it has failed: its memory unit works
abbrev pub failed : ProcessState → ProcessState
failed now = record now { doing = Closes now.command now.number (cut_of now.setup now.process now.doing) }

-- the process after its restart
abbrev pub restarted : ProcessState → ProcessState
restarted now = record now { doing = Rests }

-- WHY AN EVENT IS REFUSED

-- the event is a call, and would be one too many after a call with this number
abbrev pub is_full : Setup → ℕ → Event → Bool
is_full s number event = is_call event && (s.version == 2) && nat_le 65535 number

-- the first refusal that applies to an event of the process, if one does
abbrev pub refusal_of : ProcessState → Event → Option Refusal
refusal_of now event = elim (refused_at event (stage_doing now.doing)) [ Some refusal ↦ Some refusal | None ↦ cond (is_full now.setup now.number event) (Some CallsFull) None ]

-- the refusal is not an allocation failure
abbrev pub WantsNoMemory : Refusal → Type 0
WantsNoMemory refusal = refusal ≡ Memory → ⊥

-- the number of the call after the one with this number: in version 2 one more; in version 1 always 0
abbrev pub next_number : Setup → ℕ → ℕ
next_number s number = cond (s.version == 2) (number + 1) 0

-- THE STAMPS THAT IT HAS READ

-- the greatest stamp that was read, if the next access may take the command: the number of changes taken before it
abbrev pub changes_at : Part → ℕ
changes_at (AsksImage versions) = newest_stamp versions
changes_at (WritesCommit versions store) = newest_stamp versions
changes_at _ = 0

abbrev pub changes_read : Doing → ℕ
changes_read (Runs command number at) = changes_at at.part
changes_read _ = 0

-- the greatest stamp that was read, while a change is being written
abbrev pub changes_pending : Setup → ℕ → Doing → Option ℕ
changes_pending s p (Runs command number at) = option_map (λ (change : Change). change.1) (pending_at (call s p command number) at.part)
changes_pending s p _ = None

-- THE REST OF ITS REGISTER ACCESS

-- the number of accesses left in a register access
abbrev pub rest_of : Call → Part → Run → ℕ
rest_of c part (Reading bits begun) = 2 * width c.setup (read_at c part).1 - (2 * length bits + (if begun then 1 else 0))
rest_of c part (Writing w) = 2 * (c.setup.processes * (w.width - w.bit)) - elim w.run as (λ _. ℕ) [ None ↦ 0 | Some bit ↦ bit.made ]

-- the first access of a part begins its call, or has a mark
abbrev pub is_reported : Part → Bool
is_reported Raises = true
is_reported part = elim (first_marks part) [ [] ↦ false | mark ∷ marks ↦ true ]

-- the number of accesses before the last one; 0 if the next access begins the call or has a mark
abbrev pub remaining_of : Call → Part → Run → ℕ
remaining_of c part run = cond (is_fresh run && is_reported part) 0 (rest_of c part run - 1)

-- the number of its next accesses that are within a register access of its call: they have no mark, and none is the first of the
-- call or the last of the register access
abbrev pub remaining_at : ProcessState → ℕ
remaining_at now = elim now.doing as (λ _. ℕ) [
  | Rests ↦ 0
  | Lies ↦ 0
  | Runs command number at ↦ cond (is_over at.part) 0 (remaining_of (call now.setup now.process command number) at.part at.run)
  | Closes command number at ↦ 0
]
