-- The verdict, the text and the status of an audit of a scenario's run.
use Rattle.std.specs.Prelude.{◌≡◌, ℕ, List, length, Option, IfSome, Result, Ok}
use Rattle.std.specs.Io.KnownBytes.{Appends}
use Rattle.judge.specs.auditor.{IsVerdict, Law, Verdict}
use Rattle.judge.specs.safe_monitor.declared.verdicts.Verdict.TheVariants.{Good}
use Rattle.judge.specs.safe_monitor.{law_text}
use Rattle.judge.specs.{status_of_verdict, verdict_line}
use Rattle.scenario.specs.files.{LineFault, text_by}
use Rattle.scenario.specs.{Script, scenario_of}
use Rattle.scenario_run.specs.{run_record}

-- the number of entries in the record of a scenario's run
abbrev pub run_length : Script → ℕ
run_length said = length (run_record said)

-- the text of the audit of a scenario's run: each entry of its record keeps each law
abbrev pub audited : Script → List ℕ
audited said = verdict_line law_text (run_length said) Good

-- the text of a file, or its fault
abbrev pub audit_text : List ℕ → Result (List ℕ) LineFault
audit_text = text_by scenario_of audited

-- the verdict on the record of a scenario's run
abbrev pub IsRunVerdict : Script → Verdict Law → Type 0
IsRunVerdict said = IsVerdict said.setup (run_record said)

-- the status is that of the verdict on the record of a scenario's run, and the line of the verdict was written
pub record ReportsVerdict (said : Script) (status : ℕ) (old new : Option (List ℕ)) : Type 0 where
  pub verdict : Verdict Law
  pub is : IsRunVerdict said verdict
  pub answer : status ≡ status_of_verdict verdict
  pub line : Appends old new (verdict_line law_text (run_length said) verdict)

-- this holds of the scenario of the whole input
abbrev pub InputReportsVerdict : Option (List ℕ) → ℕ → Option (List ℕ) → Option (List ℕ) → Type 0
InputReportsVerdict to_come status old new = IfSome to_come (λ input. (said : Script) × (scenario_of input ≡ Ok said) × ReportsVerdict said status old new)
