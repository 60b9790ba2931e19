-- How an engine ends once it has read its input: the whole text was written, or a prefix of it.
use Rattle.std.proofs.Common.{◌≡◌, ℕ, ◌+◌, List, Option, Some, None, Result, Ok, Err, IfSome, IfOk, IfErr, IsErrAnd, OnOk, subst, sym, ◌∙◌, arith}
use Rattle.std.specs.Io.KnownBytes.{Appends}
use Rattle.scenario.proofs.files.CutTexts.{input_reports}
use Rattle.scenario.proofs.CutTexts.{scenario_reports_at_limit}
use Rattle.scenario.proofs.files.EngineEnds.{text_reported, read_to_end}
use Rattle.scenario.specs.files.Engines.{Streams, Ran, text_by, text_or_none}
use Rattle.scenario.specs.{Script, scenario_of}
use Rattle.scenario.specs.files.{Fault, LineFault, ReadsInput, WritesFront}
use Rattle.scenario.specs.files.declared.faults.Fault.TheVariants.{Line, Read, Write, Memory}
use Rattle.scenario_run.specs.{InputKeepsMainTheorem, IsSummaryOf, IsWriteFault, RunKeepsMainTheorem, Summary, ended, failed_write, happenings, summary_of}

-- a fault stays a fault when the result is dropped
pub ended_err : {A : Type 0} (result : Result A Fault) (P : Fault → Type 0) → IsErrAnd result P → IsErrAnd (ended result) P
ended_err (Ok answer) P is = absurd is
ended_err (Err e) P is = is

module _ (printed : Script → List ℕ) where
  -- the text of a file, or its fault
  abbrev pub text : List ℕ → Result (List ℕ) LineFault
  text = text_by scenario_of printed

  -- a prefix of a text, or of the empty text if there is a fault
  front_if_any : (old new : Option (List ℕ)) (input : List ℕ) → ((all : List ℕ) × (text input ≡ Ok all) × WritesFront old new all) → WritesFront old new (text_or_none (text input))
  front_if_any old new input (all, is, front) = subst (λ r. WritesFront old new (text_or_none r)) (sym is) front

  front_any : (old new : Streams) (to_come : Option (List ℕ)) → IfSome to_come (λ input. (all : List ℕ) × (text input ≡ Ok all) × WritesFront old.taken new.taken all) → IfSome to_come (λ input. WritesFront old.taken new.taken (text_or_none (text input)))
  front_any old new None some = tt
  front_any old new (Some input) some = front_if_any old.taken new.taken input some

  -- the end of an engine, once the input is read and is that of a scenario
  pub engine_ran : {A : Type 0} (result : Result A Fault) (bytes : List ℕ) (said : Script) (old new : Streams) → ReadsInput old.to_come new.to_come bytes → scenario_of bytes ≡ Ok said →
      OnOk result (Appends old.taken new.taken (printed said)) → WritesFront old.taken new.taken (printed said) → IfErr result IsWriteFault → new.write_failures ≡ old.write_failures + failed_write result → Ran text (ended result) old new
  engine_ran (Ok answer) bytes said old new read good written front fault failures = (
    text_reported scenario_of printed scenario_reports_at_limit old.to_come new.to_come bytes said (λ all. Appends old.taken new.taken all) read good written,
    read_to_end scenario_of printed scenario_reports_at_limit old.to_come new.to_come bytes said read good,
  )
  engine_ran (Err Write) bytes said old new read good written front fault failures =
      (omega (arith, failures), text_reported scenario_of printed scenario_reports_at_limit old.to_come new.to_come bytes said (λ all. WritesFront old.taken new.taken all) read good front)
  engine_ran (Err Memory) bytes said old new read good written front fault failures =
      front_any old new old.to_come (text_reported scenario_of printed scenario_reports_at_limit old.to_come new.to_come bytes said (λ all. WritesFront old.taken new.taken all) read good front)
  engine_ran (Err Read) bytes said old new read good written front fault failures = absurd fault
  engine_ran (Err (Line f)) bytes said old new read good written front fault failures = absurd fault

-- a result that holds for the scenario that was read holds for that of the whole input
pub input_answer : {A : Type 0} (result : Result A Fault) (P : Script → A → Type 0) (bytes : List ℕ) (said : Script) (old new : Option (List ℕ)) → ReadsInput old new bytes → scenario_of bytes ≡ Ok said →
    IfOk result (P said) → IfOk result (λ answer. IfSome old (λ input. (said : Script) × (scenario_of input ≡ Ok said) × P said answer))
input_answer (Err e) P bytes said old new read good is = tt
input_answer (Ok answer) P bytes said None new read good is = tt
input_answer (Ok answer) P bytes said (Some input) new read good is =
    let same : scenario_of bytes ≡ scenario_of input = input_reports scenario_of input bytes new scenario_reports_at_limit read in
    (said, sym same ∙ good, is)

-- the numbers of a replay are those of the whole input
pub replay_numbers : (result : Result Summary Fault) (bytes : List ℕ) (said : Script) (old new : Option (List ℕ)) → ReadsInput old new bytes → scenario_of bytes ≡ Ok said →
    IfOk result (λ summary. summary ≡ summary_of said.setup (happenings said)) → IfOk result (λ summary. IsSummaryOf old summary)
replay_numbers result bytes said old new read good is = input_answer result (λ said summary. summary ≡ summary_of said.setup (happenings said)) bytes said old new read good is

-- the run of a replay is that of the whole input
pub replay_main_theorem : (result : Result Summary Fault) (bytes : List ℕ) (said : Script) (old new : Option (List ℕ)) → ReadsInput old new bytes → scenario_of bytes ≡ Ok said →
    OnOk result (RunKeepsMainTheorem said) → OnOk result (InputKeepsMainTheorem old)
replay_main_theorem (Err e) bytes said old new read good keeps = tt
replay_main_theorem (Ok summary) bytes said None new read good keeps = tt
replay_main_theorem (Ok summary) bytes said (Some input) new read good keeps =
    let same : scenario_of bytes ≡ scenario_of input = input_reports scenario_of input bytes new scenario_reports_at_limit read in
    (said, sym same ∙ good, keeps)
