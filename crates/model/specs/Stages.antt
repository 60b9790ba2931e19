-- The stage of a process, and whether it is inside: read off its marks.
use Rattle.std.specs.Prelude.{ℕ, ◌==◌, Bool, true, false, [], ◌∷◌, fold, cond}
use Rattle.model.specs.declared.marks.Mark.{Mark}
use Rattle.model.specs.declared.marks.Mark.TheVariants.{Called, Waiting, Entered, Taken, Left, Answered, Failed, Settled, Down, Withdrew, Restarted}
use Rattle.model.specs.declared.stages.Stage.{Stage}
use Rattle.model.specs.declared.stages.Stage.TheVariants.{Idle, Doorway, Waiting, Inside, Leaving, Settling, Down}
use Rattle.model.specs.Entries.{Past}

-- the stage after a mark; where its memory unit makes the mark `Left`, a process stays settling
abbrev pub stage_after : Stage → Mark → Stage
stage_after stage (Called c) = Doorway
stage_after stage (Waiting t) = Waiting
stage_after stage Entered = Inside
stage_after stage (Taken k r) = stage
stage_after Settling Left = Settling
stage_after stage Left = Leaving
stage_after stage (Answered a) = Idle
stage_after stage Failed = Settling
stage_after stage (Settled v) = stage
stage_after stage Down = Down
stage_after stage Withdrew = Leaving
stage_after stage Restarted = Idle

-- the stage of a process
abbrev pub stage : ℕ → Past → Stage
stage p [] = Idle
stage p (e ∷ past) = cond (e.process == p) (fold stage_after (stage p past) e.marks) (stage p past)

-- whether a process is inside after a mark
abbrev pub inside_after : Bool → Mark → Bool
inside_after is Entered = true
inside_after is Left = false
inside_after is _ = is

-- a process is inside from its mark `Entered` up to its mark `Left`, whether it or its memory unit makes that one
abbrev pub inside : ℕ → Past → Bool
inside p [] = false
inside p (e ∷ past) = cond (e.process == p) (fold inside_after (inside p past) e.marks) (inside p past)

-- THE KINDS OF STAGES

-- the process waits, with a ticket
abbrev pub is_waiting_stage : Stage → Bool
is_waiting_stage Waiting = true
is_waiting_stage _ = false

-- the process is in its doorway
abbrev pub is_in_doorway : Stage → Bool
is_in_doorway Doorway = true
is_in_doorway _ = false

-- the process is in its doorway or waits
abbrev pub is_at_door : Stage → Bool
is_at_door Doorway = true
is_at_door Waiting = true
is_at_door _ = false

-- the process clears its ticket
abbrev pub is_leaving : Stage → Bool
is_leaving Leaving = true
is_leaving _ = false

-- the process has a call, and has not failed in it
abbrev pub is_running : Stage → Bool
is_running Doorway = true
is_running Waiting = true
is_running Inside = true
is_running Leaving = true
is_running _ = false

-- the process has failed, and its memory unit is at work
abbrev pub is_settling : Stage → Bool
is_settling Settling = true
is_settling _ = false

-- the memory unit of the process is done
abbrev pub is_down : Stage → Bool
is_down Down = true
is_down _ = false

-- the process is idle or down
abbrev pub is_at_rest : Stage → Bool
is_at_rest Idle = true
is_at_rest Down = true
is_at_rest _ = false

-- the process, or its memory unit, has a next step
abbrev pub is_at_work : Stage → Bool
is_at_work Idle = false
is_at_work Down = false
is_at_work _ = true
