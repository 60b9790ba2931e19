-- The text that `record` prints is read by `judge` as that setup and that record.
use Rattle.std.specs.Prelude.{◌≡◌, ℕ, List, Option, IfSome, Ok}
use Rattle.std.specs.Io.KnownBytes.{Appends}
use Rattle.scenario.specs.{IsScenario, Script, scenario_of}
use Rattle.judge.specs.record_file.{record_of, record_text}
use Rattle.plain_store.specs.{Setup}
use Rattle.scenario_run.specs.model.{Entry}
use Rattle.engines.specs.Recordings.{recorded}
use Rattle.scenario_run.specs.{run_record}

-- The text of the record of a scenario's run is read as the scenario's setup and that record.
abbrev pub RecordedRunsAreReadAgain : Type 0
RecordedRunsAreReadAgain = (said : Script) → IsScenario said → record_of (recorded said) ≡ Ok (record { setup = said.setup; entries = run_record said })

-- the text of a record is read again, as its setup and its entries
abbrev pub IsReadAgain : Setup → List Entry → Type 0
IsReadAgain s entries = record_of (record_text s entries) ≡ Ok (record { setup = s; entries = entries })

-- a text was written that is read as the scenario's setup and the record of its run
pub record WritesRecord (said : Script) (old new : Option (List ℕ)) : Type 0 where
  pub text : List ℕ
  pub written : Appends old new text
  pub read : record_of text ≡ Ok (record { setup = said.setup; entries = run_record said })

-- this holds of the scenario of the whole input
abbrev pub InputWritesRecord : Option (List ℕ) → Option (List ℕ) → Option (List ℕ) → Type 0
InputWritesRecord to_come old new = IfSome to_come (λ input. (said : Script) × (scenario_of input ≡ Ok said) × WritesRecord said old new)
