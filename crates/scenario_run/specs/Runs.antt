-- The run of a scenario: what each line does, given the record so far.
use Rattle.std.specs.Prelude.{ℕ, zero, suc, Bool, true, false, nat_lt, List, [], ◌∷◌, length, filter, slice_index, is_none}
use Rattle.plain_store.specs.{Setup}
use Rattle.model.specs.{Event, Past, Stage, Taken, history, is_at_work, processes, refused, stage}
use Rattle.model.specs.declared.events.Event.TheVariants as event
use Rattle.model.specs.declared.stages.Stage.TheVariants.{Idle, Doorway, Waiting, Settling, Down}
use Rattle.scenario.specs.{Line, Script, Target}
use Rattle.scenario.specs.declared.lines.Line.TheVariants as line
use Rattle.scenario.specs.declared.lines.Target.TheVariants as target
use Rattle.world.specs.choices.{FlickState, constant_flicks, after_set, flick_of, after_flick, pick_of, after_pick}
use Rattle.scenario_run.specs.Happenings.{Happening, Tries, Lacks, Tires, Looks, past_after}

-- a run so far: what has happened, and the source of its next flicks and picks
pub record Run : Type 0 where
  pub happened : List Happening
  pub flicks : FlickState

-- the run before anything has happened; its flicks are all 0
abbrev pub run_at_start : Run
run_at_start = record { happened = []; flicks = constant_flicks false }

-- the record so far
abbrev pub past_in : Setup → Run → Past
past_in s run = past_after s run.happened

-- the commands taken so far
abbrev pub taken_in : Setup → Run → List Taken
taken_in s run = history s (past_in s run)

-- the run with one more happening
abbrev pub with_happening : Happening → Run → Run
with_happening this run = record run { happened = this ∷ run.happened }

-- the next Step of a process
abbrev pub next_step : ℕ → Run → Event
next_step p run = event.Step p (flick_of run.flicks)

-- the run after the next Step of p, which uses a flick whether it is made or refused
abbrev pub stepped : ℕ → Run → Run
stepped p run = record { happened = Tries (next_step p run) ∷ run.happened; flicks = after_flick run.flicks }

-- the next Step of p would be made
abbrev pub may_step : Setup → ℕ → Run → Bool
may_step s p run = is_none (refused s (past_in s run) (next_step p run))

-- `step`: n Steps of a process, up to the first that is refused
abbrev pub steps : Setup → ℕ → ℕ → Run → Run
steps s p zero run = run
steps s p (suc n) run = elim (may_step s p run) [ true ↦ steps s p n (stepped p run) | false ↦ stepped p run ]

-- a process in this stage has reached the target of a `go`
abbrev pub is_there : Target → Stage → Bool
is_there target.Wait Doorway = false
is_there target.Wait Settling = false
is_there target.Wait _ = true
is_there target.Inside Doorway = false
is_there target.Inside Waiting = false
is_there target.Inside Settling = false
is_there target.Inside _ = true
is_there target.Idle Idle = true
is_there target.Idle Down = true
is_there target.Idle _ = false
is_there target.Down Down = true
is_there target.Down _ = false

-- `go` of a process that exists: at most n Steps, up to the target or to the first that is refused; if n Steps do not reach the target, the process is tired
abbrev pub goes : Setup → ℕ → Target → ℕ → Run → Run
goes s p target zero run = elim (is_there target (stage p (past_in s run))) [ true ↦ run | false ↦ with_happening (Tires p) run ]
goes s p target (suc n) run = elim (is_there target (stage p (past_in s run))) [
  | true ↦ run
  | false ↦ elim (may_step s p run) [ true ↦ goes s p target n (stepped p run) | false ↦ stepped p run ]
]

-- the processes with a Step to make, ascending
abbrev pub enabled : Setup → Past → List ℕ
enabled s past = filter (λ p. is_at_work (stage p past)) (processes s)

-- the process that is picked among these
abbrev pub pick_among : List ℕ → Run → ℕ
pick_among ps run = slice_index ps (pick_of (length ps) run.flicks)

-- the run after the word of the pick is drawn
abbrev pub after_pick_in : Run → Run
after_pick_in run = record run { flicks = after_pick run.flicks }

-- the run after a Step of a picked process, whose pick is drawn before its flick
abbrev pub picked : List ℕ → Run → Run
picked ps run = stepped (pick_among ps run) (after_pick_in run)

-- `wander`: n Steps of picked processes, while there is a process to pick
abbrev pub wanders : Setup → ℕ → Run → Run
wanders s zero run = run
wanders s (suc n) run = elim (enabled s (past_in s run)) [ [] ↦ run | p ∷ ps ↦ wanders s n (picked (p ∷ ps) run) ]

-- the greatest number of Steps of a `go`
abbrev pub go_limit : ℕ
go_limit = 65536

-- the run after a line
abbrev pub run_after : Setup → Line → Run → Run
run_after s (line.Call p command) run = with_happening (Tries (event.Call p command)) run
run_after s (line.Step p n) run = steps s p n run
run_after s (line.Go p target) run = elim (nat_lt p s.processes) [ true ↦ goes s p target go_limit run | false ↦ with_happening (Lacks p) run ]
run_after s (line.Fail p) run = with_happening (Tries (event.Fail p)) run
run_after s (line.Withdraw p) run = with_happening (Tries (event.Withdraw p)) run
run_after s (line.Restart p) run = with_happening (Tries (event.Restart p)) run
run_after s (line.Flick flick) run = record run { flicks = after_set flick run.flicks }
run_after s (line.Wander n) run = wanders s n run
run_after s line.Show run = with_happening Looks run

-- the run after lines, in order
abbrev pub runs : Setup → List Line → Run → Run
runs s [] run = run
runs s (line ∷ lines) run = runs s lines (run_after s line run)

-- all that happens in a scenario, the newest first
abbrev pub happenings : Script → List Happening
happenings script = (runs script.setup script.lines run_at_start).happened
