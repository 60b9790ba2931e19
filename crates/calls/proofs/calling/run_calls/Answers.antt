use Rattle.scenario.proofs.CutTexts.{scenario_reports_at_limit}
use Rattle.scenario.proofs.files.EngineEnds.{kept, ran_to_line}
use Rattle.scenario.specs.{scenario_of, script}
use Rattle.scenario.specs.files.declared.faults.Fault.TheVariants.{Line}
use Rattle.std.proofs.Common.{◌≡◌}
use Rattle.scenario_run.specs.{ended}
use Rattle.scenario_run.proofs.ReplayEnds.{ended_err, engine_ran}
use Rattle.calls.specs.{tabled}
use Rattle.calls.proofs.calling.run_calls.Goals as goal

pub returns-in_err-scenario-clause-ran : goal.returns-in_err-scenario-clause-ran
returns-in_err-scenario-clause-ran g c =
    ran_to_line scenario_of tabled scenario_reports_at_limit (ended c.from_residual-in_err-scenario.result) c.in_err-scenario.field-0.0 c.in_ok-file.file.items _ _
    (ended_err c.from_residual-in_err-scenario.result (λ reported. reported ≡ Line c.in_err-scenario.field-0.0) c.from_residual-in_err-scenario.ensures.1) c.in_ok-file.ensures.input (rw c.as_slice.ensures.value at c.in_err-scenario.ensures.said) (kept _)

pub returns-clause-ran : goal.returns-clause-ran
returns-clause-ran g c =
    engine_ran tabled c.table_scenario.result c.in_ok-file.file.items (script c.in_ok-scenario.scenario) _ _
    c.in_ok-file.ensures.input (rw c.as_slice.ensures.value at c.in_ok-scenario.ensures.said) c.table_scenario.ensures.written c.table_scenario.ensures.front c.table_scenario.ensures.fails.fault c.table_scenario.ensures.fails.counted
