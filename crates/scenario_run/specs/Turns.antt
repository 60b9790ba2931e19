-- A run turn by turn: what the next turn of a line does, and how many turns are left then. Runs.antt defines the run line by line.
use Rattle.std.specs.Prelude.{ℕ, zero, suc, nat_lt, Bool, true, false, List, [], ◌∷◌, Option, None, Some}
use Rattle.plain_store.specs.{Setup}
use Rattle.model.specs.declared.events.Event.TheVariants as event
use Rattle.model.specs.{stage}
use Rattle.scenario.specs.{Line, Target}
use Rattle.scenario.specs.declared.lines.Line.TheVariants as line
use Rattle.world.specs.choices.{after_set}
use Rattle.scenario_run.specs.Happenings.{Happening, Tries, Lacks, Tires, Looks}
use Rattle.scenario_run.specs.Runs.{Run, past_in, with_happening, next_step, stepped, steps, goes, wanders, run_after, may_step, is_there, enabled, pick_among, after_pick_in, go_limit}

-- how many turns a line may make; the last turn of a `go` looks whether the process has reached its target, and makes no Step
abbrev pub turns_in : Line → ℕ
turns_in (line.Step p n) = n
turns_in (line.Wander n) = n
turns_in (line.Go p target) = suc go_limit
turns_in (line.Call p command) = 1
turns_in (line.Fail p) = 1
turns_in (line.Withdraw p) = 1
turns_in (line.Restart p) = 1
turns_in (line.Flick flick) = 1
turns_in line.Show = 1

-- a line that makes Steps
abbrev pub makes_steps : Line → Bool
makes_steps (line.Step p n) = true
makes_steps (line.Wander n) = true
makes_steps (line.Go p target) = true
makes_steps _ = false

-- a turn: what happens in it, if something does, the turns left after it, and the run after it
pub record Turn : Type 0 where
  pub this : Option Happening
  pub remaining : ℕ
  pub run : Run

-- nothing happens, and the line has ended
abbrev pub ends : Run → Turn
ends run = record { this = None; remaining = 0; run = run }

-- this happens
abbrev pub happens : Happening → ℕ → Run → Turn
happens this remaining run = record { this = Some this; remaining = remaining; run = with_happening this run }

-- the next Step of p is made or refused
abbrev pub made_turn : ℕ → ℕ → Run → Turn
made_turn p remaining run = record { this = Some (Tries (next_step p run)); remaining = remaining; run = stepped p run }

-- the next Step of p is made, or is refused and ends the line
abbrev pub step_turn : Setup → ℕ → ℕ → Run → Turn
step_turn s p remaining run = made_turn p (elim (may_step s p run) [ true ↦ remaining | false ↦ 0 ]) run

-- a turn of `go` of a process that is not at its target
abbrev pub on_turn : Setup → ℕ → ℕ → Run → Turn
on_turn s p zero run = happens (Tires p) 0 run
on_turn s p (suc remaining) run = step_turn s p (suc remaining) run

-- a turn of `go`
abbrev pub go_turn : Setup → ℕ → Target → ℕ → Run → Turn
go_turn s p target remaining run = elim (nat_lt p s.processes) [
  | false ↦ happens (Lacks p) 0 run
  | true ↦ elim (is_there target (stage p (past_in s run))) [ true ↦ ends run | false ↦ on_turn s p remaining run ]
]

-- a turn of `wander`
abbrev pub wander_turn : ℕ → Run → List ℕ → Turn
wander_turn remaining run [] = ends run
wander_turn remaining run (p ∷ ps) = made_turn (pick_among (p ∷ ps) run) remaining (after_pick_in run)

-- the next turn of a line, with `remaining` turns left after it
abbrev pub next_turn : Setup → Line → ℕ → Run → Turn
next_turn s (line.Call p command) remaining run = happens (Tries (event.Call p command)) remaining run
next_turn s (line.Step p n) remaining run = step_turn s p remaining run
next_turn s (line.Go p target) remaining run = go_turn s p target remaining run
next_turn s (line.Fail p) remaining run = happens (Tries (event.Fail p)) remaining run
next_turn s (line.Withdraw p) remaining run = happens (Tries (event.Withdraw p)) remaining run
next_turn s (line.Restart p) remaining run = happens (Tries (event.Restart p)) remaining run
next_turn s (line.Flick flick) remaining run = ends (record run { flicks = after_set flick run.flicks })
next_turn s (line.Wander n) remaining run = wander_turn remaining run (enabled s (past_in s run))
next_turn s line.Show remaining run = happens Looks remaining run

-- the next turn of a line with this number of turns left; with none left, the line has ended
abbrev pub turn_of : Setup → Line → ℕ → Run → Turn
turn_of s line zero run = ends run
turn_of s line (suc remaining) run = next_turn s line remaining run

-- the run after a line of at most one turn, with this number of turns left
abbrev pub once : ℕ → Run → Run → Run
once zero run after = run
once (suc remaining) run after = after

-- the run after the rest of a `go` with this number of turns left
abbrev pub go_rest : Setup → ℕ → Target → ℕ → Run → Run
go_rest s p target zero run = run
go_rest s p target (suc remaining) run = elim (nat_lt p s.processes) [ true ↦ goes s p target remaining run | false ↦ with_happening (Lacks p) run ]

-- the run after the rest of a line with `remaining` turns left
abbrev pub rest_of : Setup → Line → ℕ → Run → Run
rest_of s (line.Call p command) remaining run = once remaining run (run_after s (line.Call p command) run)
rest_of s (line.Step p n) remaining run = steps s p remaining run
rest_of s (line.Go p target) remaining run = go_rest s p target remaining run
rest_of s (line.Fail p) remaining run = once remaining run (run_after s (line.Fail p) run)
rest_of s (line.Withdraw p) remaining run = once remaining run (run_after s (line.Withdraw p) run)
rest_of s (line.Restart p) remaining run = once remaining run (run_after s (line.Restart p) run)
rest_of s (line.Flick flick) remaining run = once remaining run (run_after s (line.Flick flick) run)
rest_of s (line.Wander n) remaining run = wanders s remaining run
rest_of s line.Show remaining run = once remaining run (run_after s line.Show run)

-- the run after the first n turns of a line with `remaining` turns left; a line that has ended makes no turn
unfoldable pub turns_made : Setup → Line → ℕ → ℕ → Run → Run
turns_made s line zero remaining run = run
turns_made s line (suc n) remaining run = turns_made s line n (turn_of s line remaining run).remaining (turn_of s line remaining run).run

-- the run after the first n turns of a line, or after all of its turns if it has fewer
abbrev pub part_of_line : Setup → ℕ → Line → Run → Run
part_of_line s n line run = turns_made s line n (turns_in line) run
