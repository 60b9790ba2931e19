-- The part of a run that is played up to an event.
use Rattle.std.specs.Prelude.{◌≡◌, ◌⊎◌, ◌+◌, ◌-◌, ◌^◌, ◌<◌, ◌≤◌, ℕ, List, ◌∷◌, ◌++◌, length, Option, None, Some}
use Rattle.plain_store.specs.{Setup}
use Rattle.scenario.specs.{Line}
use Rattle.scenario_run.specs.ScenarioRuns.{ScenarioRunState}
use Rattle.scenario_run.specs.Happenings.{Happening}
use Rattle.scenario_run.specs.Observing.{InItsRun, Plays}
use Rattle.scenario_run.specs.Runs.{Run, past_in, run_after, runs}
use Rattle.scenario_run.specs.declared.play_limit.LineMade.{LineMade}
use Rattle.scenario_run.specs.declared.play_limit.PlayLimit.{PlayLimit}
use Rattle.scenario_run.specs.declared.play_limit.PlayLimit.TheVariants.{End, Event}

-- the number of events of a run
abbrev pub events_in : Setup → Run → ℕ
events_in s run = length (past_in s run)

-- the number of events that are still to be made after `made`; for `End`, more than a line ever makes
abbrev pub events_to : PlayLimit → ℕ → ℕ
events_to End made = 2 ^ 64 - 1
events_to (Event n) made = n - made

-- A run continues to another, whose further events are the first n of the whole run's, or all of them if there are fewer.
pub record IsFront (s : Setup) (n : ℕ) (run now whole : Run) : Type 0 where
  pub more : List Happening
  pub is : whole.happened ≡ more ++ now.happened
  pub most : events_in s now ≤ events_in s run + n
  pub ends : (events_in s run + n ≤ events_in s now) ⊎ (whole ≡ now)

-- the run now is the part of the whole run that is played
abbrev pub IsPart : Setup → PlayLimit → Run → Run → Run → Type 0
IsPart s End run now whole = now ≡ whole
IsPart s (Event n) run now whole = IsFront s n run now whole

-- When lines are played after a run, this line made the newest event of the run now.
pub record IsLineMade (s : Setup) (lines : List Line) (run now : Run) (made : LineMade) : Type 0 where
  pub before : List Line
  pub line : Line
  pub after : List Line
  pub is : lines ≡ before ++ line ∷ after
  pub index : made.line ≡ length before
  pub events : events_in s (runs s before run) ≡ events_in s run + made.before
  pub fewer : events_in s (runs s before run) < events_in s now
  pub enough : events_in s now ≤ events_in s (run_after s line (runs s before run))

-- the line that made the newest event, or none if no event was made
abbrev pub MadeNewest : Setup → List Line → Run → Run → Option LineMade → Type 0
MadeNewest s lines run now None = events_in s now ≡ events_in s run
MadeNewest s lines run now (Some made) = IsLineMade s lines run now made

-- lines are played after a run: the run now, and the line that made its newest event
pub record PlaysPart {L : Type 0} (Observes : L → Setup → List Happening → List Happening → L → Type 0) (s : Setup) (lines : List Line) (until : PlayLimit) (run : Run) (scenario_run : ScenarioRunState) (was is : L) (newest : Option LineMade) : Type 0 where
  pub now : Run
  pub plays : Plays Observes s run now scenario_run was is
  pub part : IsPart s until run now (runs s lines run)
  pub newest_made : MadeNewest s lines run now newest

-- lines are played so in each run that the scenario run shows
abbrev pub PlaysUntil : {L : Type 0} → (L → Setup → List Happening → List Happening → L → Type 0) → PlayLimit → ScenarioRunState → List Line → ScenarioRunState → L → L → Option LineMade → Type 0
PlaysUntil Observes until old lines new was is newest = InItsRun old (λ run. PlaysPart Observes old.world.setup lines until run new was is newest)
