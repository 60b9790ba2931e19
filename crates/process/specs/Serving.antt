-- A process with its memory: one step, and several steps.
use Rattle.std.specs.Prelude.{ℕ, zero, suc, ◌+◌, Bool, if◌then◌else◌, List, None, Some, unwrap_or}
use Rattle.registers.specs.safe_bit.Cell.{Cell}
use Rattle.registers.specs.safe_bit.declared.moves.Move.TheVariants.{BeginRead}
use Rattle.choices.specs.{FlickState, after_flick, flick_of}
use Rattle.model.specs.{Access, value_of}
use Rattle.model.specs.declared.access.Field.TheVariants.{Choosing}
use Rattle.laws.specs.{next_of, reads_of}
use Rattle.registers.specs.{answered, applied, ends_overlapped, lane_number, without_reads}
use Rattle.process.specs.Places.{ProcessState, stepped}

-- the next access of a process that has one; the end of a read has no value yet
abbrev pub next_at : ProcessState → Bool → Access
next_at now flick = unwrap_or (next_of now.setup now.process now.doing flick) (record { owner = 0; field = Choosing; bit = 0; reader = 0; how = BeginRead })

-- the next access, with the value that the memory returns
abbrev pub answered_at : ProcessState → List (List Cell) → Bool → Access
answered_at now memory flick = answered now.setup.processes memory flick (next_at now flick)

-- the next access with its value, by the next flick
abbrev pub answered_next : ProcessState × List (List Cell) × FlickState → Access
answered_next (now, memory, flicks) = answered_at now memory (flick_of flicks)

-- the process and the memory after this access
abbrev pub going_by : ProcessState → List (List Cell) → Bool → Access → ProcessState × List (List Cell)
going_by now memory flick a = (stepped now flick (value_of a.how), applied now.setup.processes memory a)

-- ONE STEP by this flick
abbrev pub step_by : Bool → ProcessState × List (List Cell) → ProcessState × List (List Cell)
step_by flick (now, memory) = going_by now memory flick (answered_at now memory flick)

-- the next access with its value, by the next flick
abbrev pub step_of : ProcessState × List (List Cell) × FlickState → ProcessState × List (List Cell) × FlickState
step_of (now, memory, flicks) = ((step_by (flick_of flicks) (now, memory)).0, (step_by (flick_of flicks) (now, memory)).1, after_flick flicks)

-- SEVERAL STEPS
abbrev pub steps_of : ℕ → ProcessState × List (List Cell) × FlickState → ProcessState × List (List Cell) × FlickState
steps_of zero now = now
steps_of (suc k) now = step_of (steps_of k now)

-- the access of the newest step; if there is none, that of the next step
abbrev pub newest_of : ℕ → ProcessState × List (List Cell) × FlickState → Access
newest_of zero now = answered_next now
newest_of (suc k) now = answered_next (steps_of k now)

-- the next step ends a read that a write overlapped
abbrev pub overlaps_step : ProcessState × List (List Cell) × FlickState → Bool
overlaps_step (now, memory, flicks) = ends_overlapped now.setup.processes memory (answered_next (now, memory, flicks))

-- the number of the first k steps that end a read that a write overlapped
abbrev pub overlapped_steps : ℕ → ProcessState × List (List Cell) × FlickState → ℕ
overlapped_steps zero now = 0
overlapped_steps (suc k) now = overlapped_steps k now + (if overlaps_step (steps_of k now) then 1 else 0)

-- the memory after the open read of the process is dropped, if it has one
abbrev pub dropped : ProcessState → List (List Cell) → List (List Cell)
dropped now memory = elim (reads_of now.setup now.process now.doing) [
  | None ↦ memory
  | Some register ↦ without_reads memory (lane_number now.setup.processes (record { owner = register.0; field = register.1 }) now.process)
]
