-- The state of a scenario run, and the run that it shows.
use Rattle.std.specs.Prelude.{◌≡◌, ◌≤◌, ℕ, zero, suc, [], Option, Some}
use Rattle.plain_store.specs.{Setup}
use Rattle.model.specs.{Past}
use Rattle.scenario.specs.{Line}
use Rattle.world.specs.choices.{FlickState}
use Rattle.world.specs.Shows.{Shows, WorldState}
use Rattle.scenario_run.specs.Happenings.{Happening, Tries, past_after, tried}
use Rattle.scenario_run.specs.Runs.{Run, past_in}
use Rattle.scenario_run.specs.Reporting.{AddsMarks, Reports}
use Rattle.scenario_run.specs.Turns.{Turn, turn_of}
use Rattle.scenario_run.specs.declared.reports.TurnReport.{TurnReport}

-- the world, the source of flicks and picks, and the number of turns left of the present line
pub record ScenarioRunState : Type 0 where
  pub world : WorldState
  pub flicks : FlickState
  pub remaining : ℕ

-- the scenario run with these parts
abbrev pub scenario_run : WorldState → FlickState → ℕ → ScenarioRunState
scenario_run w flicks remaining = record { world = w; flicks = flicks; remaining = remaining }

-- the number of processes is the one in the setup, and is at most 16
pub record KeepsScenarioRun (processes : ℕ) (world : WorldState) : Type 0 where
  pub are : processes ≡ world.setup.processes
  pub few : processes ≤ 16

-- the scenario run shows a run: its world shows the record of what has happened, and its flicks are those of the run
pub record Follows (scenario_run : ScenarioRunState) (run : Run) : Type 0 where
  pub shows : Shows scenario_run.world (tried run.happened)
  pub flicks : scenario_run.flicks ≡ run.flicks

-- the scenario run makes a turn, and reports what happens in it
pub record Makes (old : ScenarioRunState) (run : Run) (turn : Turn) (answer : Option TurnReport) (new : ScenarioRunState) : Type 0 where
  pub reports : Reports old.world.setup (past_after old.world.setup run.happened) turn.this answer
  pub follows : Follows new turn.run
  pub remaining : new.remaining ≡ turn.remaining
  pub setup : new.world.setup ≡ old.world.setup

-- an event is made that has no mark
abbrev pub IsQuiet : Setup → Past → Option Happening → Type 0
IsQuiet s past (Some (Tries event)) = AddsMarks s past event []
IsQuiet s past _ = ⊥

-- `quiet` turns of a line without a mark lead from a run with `remaining` turns left to another with `remaining'` turns left
abbrev pub QuietTurns : Setup → Line → ℕ → ℕ → Run → ℕ → Run → Type 0
QuietTurns s line zero remaining run remaining' run' = (remaining' ≡ remaining) × (run' ≡ run)
QuietTurns s line (suc quiet) remaining run remaining' run' =
    IsQuiet s (past_in s run) (turn_of s line remaining run).this × QuietTurns s line quiet (turn_of s line remaining run).remaining (turn_of s line remaining run).run remaining' run'
