use Rattle.std.proofs.Common.{◌≡◌}
use Rattle.scenario.proofs.files.EngineEnds.{kept, ran_to_line}
use Rattle.scenario.specs.files.declared.faults.Fault.TheVariants.{Line}
use Rattle.scenario.proofs.CutTexts.{scenario_reports_at_limit}
use Rattle.scenario.specs.{scenario_of, script}
use Rattle.scenario_run.specs.{ended, replayed}
use Rattle.scenario_run.proofs.ReplayEnds.{ended_err, replay_numbers}
use Rattle.draw.proofs.RunEnds.{drew_all, drew_line}
use Rattle.draw.proofs.runs.engines.draw_file.Goals as goal

pub returns-in_err-scenario-clause-drew : goal.returns-in_err-scenario-clause-drew
returns-in_err-scenario-clause-drew g c =
    let is = ended_err c.from_residual-in_err-scenario.result (λ reported. reported ≡ Line c.in_err-scenario.field-0.0) c.from_residual-in_err-scenario.ensures.1 in
    drew_line c.args.options c.args.form (ended c.from_residual-in_err-scenario.result) c.in_err-scenario.field-0.0 _ _ is
    (ran_to_line scenario_of replayed scenario_reports_at_limit (ended c.from_residual-in_err-scenario.result) c.in_err-scenario.field-0.0 c.in_ok-file.file.items _ _ is
    c.in_ok-file.ensures.input (rw c.as_slice.ensures.value at c.in_err-scenario.ensures.said) (kept _))

pub returns-clause-drew : goal.returns-clause-drew
returns-clause-drew g c =
    drew_all c.args.options c.args.form c.draw_scenario.result c.in_ok-file.file.items (script c.in_ok-scenario.scenario) _ _
    c.in_ok-file.ensures.input (rw c.as_slice.ensures.value at c.in_ok-scenario.ensures.said) (rw c.as_slice-2.ensures.value at c.draw_scenario.ensures.drawn) c.draw_scenario.ensures.fails.fault c.draw_scenario.ensures.fails.counted

pub returns-clause-summary : goal.returns-clause-summary
returns-clause-summary g c =
    replay_numbers c.draw_scenario.result c.in_ok-file.file.items (script c.in_ok-scenario.scenario) _ _
    c.in_ok-file.ensures.input (rw c.as_slice.ensures.value at c.in_ok-scenario.ensures.said) c.draw_scenario.ensures.summary
