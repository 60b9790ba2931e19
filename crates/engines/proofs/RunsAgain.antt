-- The text of a scenario's run is read again.
use Rattle.std.proofs.Common.{◌≡◌, ℕ, ◌+◌, ◌*◌, ◌≤◌, List, length, Option, Result, Ok, Err, OnOk, refl, arith}
use Rattle.std.proofs.lemmas.List.{length-reverse}
use Rattle.std.specs.Io.KnownBytes.{Appends}
use Rattle.scenario_run.specs.model.{Event}
use Rattle.judge.specs.record_file.{IsSetupOfFile}
use Rattle.engines.proofs.FitRecords.{events_reversed, records_again}
use Rattle.scenario.specs.{IsScenario, Script, scenario_of}
use Rattle.scenario.proofs.TextSaid.{script_said}
use Rattle.scenario_run.specs.{accepted, accepted_events, run_at_start, runs}
use Rattle.engines.specs.{RecordedRunsAreReadAgain, WritesRecord, recorded}
use Rattle.engines.proofs.FewEvents.{AreFew, accepted_few, lines_few, tries}

-- the events of a run that are accepted, the newest first
abbrev chosen : Script → List Event
chosen said = accepted said.setup (tries (runs said.setup said.lines run_at_start))

chosen_few : (said : Script) → IsScenario said → AreFew (0 + 100000 * length said.lines) (chosen said)
chosen_few said is =
    accepted_few said.setup (0 + 100000 * length said.lines) (tries (runs said.setup said.lines run_at_start))
    (lines_few said.setup said.setup.version 0 said.lines run_at_start is.lines is.allowed (record { few = omega arith; given = refl }))

-- the setup of a scenario may be that of a record file
setup_of_file : (said : Script) → IsScenario said → IsSetupOfFile said.setup
setup_of_file said is = record { good = is.good; pairs = is.pairs; differ = is.differ; few = omega arith; lines = refl; allowed = refl }

pub run_again : RecordedRunsAreReadAgain
run_again said is =
    let are = chosen_few said is in
    let few : length (chosen said) ≤ 0 + 100000 * length said.lines = are.few in
    let lines : length said.lines ≤ 4000 = is.few in
    let same : length (accepted_events said) ≡ length (chosen said) = length-reverse (chosen said) in
    records_again said.setup (setup_of_file said is) (accepted_events said) (events_reversed (chosen said) are.given) (omega (arith, few, lines, same))

-- The text that was written for a scenario that was read is read again.
pub written_again : {A E : Type 0} (result : Result A E) (bytes : List ℕ) (said : Script) (old new : Option (List ℕ)) → scenario_of bytes ≡ Ok said → OnOk result (Appends old new (recorded said)) → OnOk result (WritesRecord said old new)
written_again (Ok done) bytes said old new good written = record { text = recorded said; written = written; read = run_again said (script_said bytes said good).scenario }
written_again (Err e) bytes said old new good written = tt
