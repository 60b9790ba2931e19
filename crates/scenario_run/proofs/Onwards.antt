-- The end of a run: its numbers, and the main theorem.
use Rattle.std.proofs.Common.{◌≡◌, ℕ, List, [], Option, ap, ◌∙◌}
use Rattle.std.specs.Io.KnownBytes.{Appends}
use Rattle.plain_store.specs.{Setup}
use Rattle.world.proofs.history_laws_proofs.MainTheorems.{throughout}
use Rattle.scenario.specs.{Line, Script}
use Rattle.scenario_run.specs.{ScenarioRunState, Follows, Happening, Plays, Run, RunKeepsMainTheorem, Summary, run_at_start, runs, summary_of, text_of, tried}
use Rattle.scenario_run.specs.Writing.{Counts}
use Rattle.scenario_run.proofs.Played.{played_good}

-- a run between two lines: its counts, the text written, and the lines to come
pub record Onward (s : Setup) (lines rest : List Line) (scenario_run : ScenarioRunState) (summary : Summary) (old new : Option (List ℕ)) : Type 0 where
  pub now : Run
  pub follows : Follows scenario_run now
  pub setup : scenario_run.world.setup ≡ s
  pub counts : Counts s now.happened summary
  pub text : List ℕ
  pub is : text_of s now.happened ≡ text
  pub taken : Appends old new text
  pub whole : runs s rest now ≡ runs s lines run_at_start

-- the numbers are the counts and the number of commands that the scenario run returns
pub run_numbers : (s : Setup) (run : Run) (scenario_run : ScenarioRunState) (summary : Summary) (taken : ℕ) → Follows scenario_run run → scenario_run.world.setup ≡ s → Counts s run.happened summary →
    ((run : Run) → Follows scenario_run run → taken ≡ (summary_of scenario_run.world.setup run.happened).taken) → (let last : Summary = record summary { taken = taken } in last) ≡ summary_of s run.happened
run_numbers s run scenario_run summary taken follows setup counts counted =
    let took : taken ≡ (summary_of s run.happened).taken = counted run follows ∙ ap (λ s. (summary_of s run.happened).taken) setup in
    λ i. record { events = counts.events i; taken = took i; refused = counts.refused i }

pub onward_numbers : (s : Setup) (lines : List Line) (scenario_run : ScenarioRunState) (summary : Summary) (taken : ℕ) (old new : Option (List ℕ)) → Onward s lines [] scenario_run summary old new →
    ((run : Run) → Follows scenario_run run → taken ≡ (summary_of scenario_run.world.setup run.happened).taken) → (let last : Summary = record summary { taken = taken } in last) ≡ summary_of s (runs s lines run_at_start).happened
onward_numbers s lines scenario_run summary taken old new u counted = run_numbers s u.now scenario_run summary taken u.follows u.setup u.counts counted ∙ ap (λ (r : Run). summary_of s r.happened) u.whole

-- the main theorem holds of the whole run
pub run_main_theorem : {L : Type 0} {Observes : L → Setup → List Happening → List Happening → L → Type 0} {before : Run} {scenario_run : ScenarioRunState} {was is : L} (said : Script) → Plays Observes said.setup before (runs said.setup said.lines run_at_start) scenario_run was is → RunKeepsMainTheorem said
run_main_theorem said plays =
    let (good, given) = played_good plays in
    record { good = good; given = given; main_theorem = throughout said.setup good (tried (runs said.setup said.lines run_at_start).happened) given }
