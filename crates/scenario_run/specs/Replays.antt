-- How an engine ends after it has run a scenario: its numbers, and the main theorem of its run.
use Rattle.std.specs.Prelude.{◌≡◌, ℕ, List, Option, IfSome, Result, Ok, Err}
use Rattle.plain_store.specs.{checked}
use Rattle.model.specs.{AreGiven, KeepsMainTheoremThroughout}
use Rattle.scenario.specs.{Script, scenario_of}
use Rattle.scenario.specs.files.{Fault}
use Rattle.scenario_run.specs.Happenings.{past_after, tried}
use Rattle.scenario_run.specs.Runs.{happenings}
use Rattle.scenario_run.specs.Summaries.{summary_of}
use Rattle.scenario_run.specs.declared.summaries.Summary.{Summary}

-- how an engine ended, without its result
abbrev pub ended : {A : Type 0} → Result A Fault → Result (Unit {0}) Fault
ended (Ok answer) = Ok tt
ended (Err fault) = Err fault

-- the three numbers are those of the run of the whole input
abbrev pub IsSummaryOf : Option (List ℕ) → Summary → Type 0
IsSummaryOf to_come summary = IfSome to_come (λ input. (said : Script) × (scenario_of input ≡ Ok said) × (summary ≡ summary_of said.setup (happenings said)))

-- The run of a scenario is that of a world, and the main theorem holds of it. The setup is good, and names, values and counts are what their types allow. Each entry of the run's record keeps the main theorem.
pub record RunKeepsMainTheorem (said : Script) : Type 0 where
  pub good : checked said.setup ≡ Ok tt
  pub given : AreGiven said.setup (tried (happenings said))
  pub main_theorem : KeepsMainTheoremThroughout said.setup (past_after said.setup (happenings said))

-- the run of the whole input keeps the main theorem
abbrev pub InputKeepsMainTheorem : Option (List ℕ) → Type 0
InputKeepsMainTheorem to_come = IfSome to_come (λ input. (said : Script) × (scenario_of input ≡ Ok said) × RunKeepsMainTheorem said)
