-- The findings, the text and the status of a sweep over a scenario's run.
use Rattle.std.specs.Prelude.{◌≡◌, ℕ, List, [], ◌∷◌, ◌++◌, codes, flat_map, reverse, Option, None, Some, IfSome, Result, Ok}
use Rattle.std.specs.Io.KnownBytes.{Appends}
use Rattle.plain_store.specs.{Command, Setup}
use Rattle.scenario_run.specs.model.{Event}
use Rattle.scenario_run.specs.model.declared.events.Event.TheVariants.{Call, Step, Fail, Withdraw, Restart}
use Rattle.judge.specs.auditor.{Law, Verdict}
use Rattle.judge.specs.safe_monitor.declared.verdicts.Verdict.TheVariants.{Good, Bad}
use Rattle.sweeper.specs.{BadRun, IsSwept, Sweeper, Swept, SweptBy, all_good, cuts, swept_text}
use Rattle.scenario.specs.files.{LineFault, text_by}
use Rattle.scenario.specs.{Script, scenario_of}
use Rattle.judge.specs.{status_of_verdict}
use Rattle.scenario_run.specs.{Happening, accepted_events, listed}

-- the call that an event is, if it is one
abbrev pub call_of : Event → List (ℕ × Command)
call_of (Call p command) = (p, command) ∷ []
call_of (Step p flick) = []
call_of (Fail p) = []
call_of (Withdraw p) = []
call_of (Restart p) = []

-- the calls among events, in their order
abbrev pub calls_in : List Event → List (ℕ × Command)
calls_in events = flat_map call_of events

-- the accepted calls of a scenario's run
abbrev pub accepted_calls : Script → List (ℕ × Command)
accepted_calls said = calls_in (accepted_events said)

-- a sweeper has swept along the accepted events of the run so far, and these calls ended each of its runs
pub record SweepsRun (s : Setup) (calls : List (ℕ × Command)) (happened : List Happening) (given : List (ℕ × Command)) (sweeper : Sweeper) : Type 0 where
  pub given_are : given ≡ calls
  pub swept : SweptBy s calls (reverse (listed s happened)) sweeper

-- the findings of a sweep over a scenario's run: it goes along the accepted events, and the accepted calls follow in each run
abbrev pub IsRunSwept : Script → Swept → Type 0
IsRunSwept said found = IsSwept said.setup (accepted_events said) (accepted_calls said) found

-- the findings of that sweep, because every run is good
abbrev pub run_swept : Script → Swept
run_swept said = all_good (cuts said.setup (accepted_calls said) (reverse (accepted_events said)))

-- the lines of the findings of a sweep
abbrev pub swept_lines : Swept → List ℕ
swept_lines found = swept_text found ++ codes "\n"

-- the text of the sweep over a scenario's run
abbrev pub swept : Script → List ℕ
swept said = swept_lines (run_swept said)

-- the text of a file, or its fault
abbrev pub sweep_text : List ℕ → Result (List ℕ) LineFault
sweep_text = text_by scenario_of swept

-- the verdict on the first bad run, or that there is none
abbrev pub first_verdict : Option BadRun → Verdict Law
first_verdict None = Good
first_verdict (Some bad) = Bad bad.entry bad.law

-- the exit status of the findings of a sweep: that of its first bad verdict
abbrev pub status_of_swept : Swept → ℕ
status_of_swept found = status_of_verdict (first_verdict found.first_bad)

-- the status is that of the findings of a sweep over a scenario's run, and their lines were written
pub record ReportsSweep (said : Script) (status : ℕ) (old new : Option (List ℕ)) : Type 0 where
  pub found : Swept
  pub is : IsRunSwept said found
  pub answer : status ≡ status_of_swept found
  pub lines : Appends old new (swept_lines found)

-- this holds of the scenario of the whole input
abbrev pub InputReportsSweep : Option (List ℕ) → ℕ → Option (List ℕ) → Option (List ℕ) → Type 0
InputReportsSweep to_come status old new = IfSome to_come (λ input. (said : Script) × (scenario_of input ≡ Ok said) × ReportsSweep said status old new)
