-- The process that makes the next Steps of a line, up to a Step that has a mark.
use Rattle.std.specs.Prelude.{◌≡◌, ◌⊎◌, ◌≤◌, ℕ, zero, suc, true, false, nat_lt}
use Rattle.plain_store.specs.{Setup}
use Rattle.model.specs.{stage}
use Rattle.scenario.specs.{Line, Target}
use Rattle.scenario.specs.declared.lines.Line.TheVariants as line
use Rattle.world.specs.choices.{FlickState, after_flick, after_pick}
use Rattle.scenario_run.specs.Runs.{Run, is_there, past_in}
use Rattle.scenario_run.specs.declared.reports.TurnReport.{TurnReport}
use Rattle.scenario_run.specs.declared.reports.TurnReport.TheVariants as reported

-- a process exists, and is not at its target
pub record IsAway (s : Setup) (p : ℕ) (target : Target) (run : Run) : Type 0 where
  pub there : nat_lt p s.processes ≡ true
  pub away : is_there target (stage p (past_in s run)) ≡ false

-- the line makes Steps of p, while more than `floor` turns are left; the last turn of a `go` makes no Step
abbrev pub IsAlone : ℕ → ℕ → Setup → Line → Run → Type 0
IsAlone p floor s l run = ((steps : ℕ) × (l ≡ line.Step p steps)) ⊎ ((target : Target) × (l ≡ line.Go p target) × IsAway s p target run × (1 ≤ floor))

-- the turns left after a reported Step, of `remaining`: a refused Step ends a line of one process
abbrev pub remaining_after : TurnReport → ℕ → ℕ
remaining_after (reported.Accepted made) remaining = remaining
remaining_after (reported.Refused p refusal) remaining = 0
remaining_after (reported.Tired p) remaining = remaining
remaining_after (reported.Shown line) remaining = remaining

-- the flicks after n turns of `wander`, each of which draws a pick and a flick
abbrev pub turns_drawn : ℕ → FlickState → FlickState
turns_drawn zero flicks = flicks
turns_drawn (suc n) flicks = after_flick (after_pick (turns_drawn n flicks))
