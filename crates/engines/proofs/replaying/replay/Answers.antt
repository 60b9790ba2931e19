use Rattle.std.proofs.Common.{◌≡◌}
use Rattle.scenario.proofs.CutTexts.{scenario_reports_at_limit}
use Rattle.scenario.proofs.files.EngineEnds.{kept, ran_to_line}
use Rattle.scenario.specs.{scenario_of, script}
use Rattle.scenario.specs.files.declared.faults.Fault.TheVariants.{Line}
use Rattle.scenario_run.specs.{ended, replayed}
use Rattle.scenario_run.proofs.ReplayEnds.{ended_err, engine_ran, replay_main_theorem, replay_numbers}
use Rattle.engines.proofs.replaying.replay.Goals as goal

pub returns-in_err-scenario-clause-ran : goal.returns-in_err-scenario-clause-ran
returns-in_err-scenario-clause-ran g c =
    ran_to_line scenario_of replayed scenario_reports_at_limit (ended c.from_residual-in_err-scenario.result) c.in_err-scenario.field-0.0 c.in_ok-file.file.items _ _
    (ended_err c.from_residual-in_err-scenario.result (λ reported. reported ≡ Line c.in_err-scenario.field-0.0) c.from_residual-in_err-scenario.ensures.1) c.in_ok-file.ensures.input (rw c.as_slice.ensures.value at c.in_err-scenario.ensures.said) (kept _)

pub returns-clause-ran : goal.returns-clause-ran
returns-clause-ran g c =
    engine_ran replayed c.replay_scenario.result c.in_ok-file.file.items (script c.in_ok-scenario.scenario) _ _
    c.in_ok-file.ensures.input (rw c.as_slice.ensures.value at c.in_ok-scenario.ensures.said) c.replay_scenario.ensures.written c.replay_scenario.ensures.front c.replay_scenario.ensures.fails.fault c.replay_scenario.ensures.fails.counted

pub returns-clause-summary : goal.returns-clause-summary
returns-clause-summary g c =
    replay_numbers c.replay_scenario.result c.in_ok-file.file.items (script c.in_ok-scenario.scenario) _ _
    c.in_ok-file.ensures.input (rw c.as_slice.ensures.value at c.in_ok-scenario.ensures.said) c.replay_scenario.ensures.summary

pub returns-clause-main_theorem : goal.returns-clause-main_theorem
returns-clause-main_theorem g c =
    replay_main_theorem c.replay_scenario.result c.in_ok-file.file.items (script c.in_ok-scenario.scenario) _ _
    c.in_ok-file.ensures.input (rw c.as_slice.ensures.value at c.in_ok-scenario.ensures.said) c.replay_scenario.ensures.main_theorem
