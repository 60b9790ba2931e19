use Rattle.std.proofs.Common.{◌≡◌}
use Rattle.scenario.proofs.CutTexts.{scenario_reports_at_limit}
use Rattle.scenario.proofs.files.EngineEnds.{kept, ran_to_line}
use Rattle.scenario.specs.{scenario_of, script}
use Rattle.scenario.specs.files.declared.faults.Fault.TheVariants.{Line}
use Rattle.engines.specs.{ReportsSweep, swept}
use Rattle.scenario_run.specs.{ended}
use Rattle.scenario_run.proofs.ReplayEnds.{ended_err, engine_ran, input_answer}
use Rattle.engines.proofs.sweeping.run_sweep.Goals as goal

pub returns-in_err-scenario-clause-ran : goal.returns-in_err-scenario-clause-ran
returns-in_err-scenario-clause-ran g c =
    ran_to_line scenario_of swept scenario_reports_at_limit (ended c.from_residual-in_err-scenario.result) c.in_err-scenario.field-0.0 c.in_ok-file.file.items _ _
    (ended_err c.from_residual-in_err-scenario.result (λ reported. reported ≡ Line c.in_err-scenario.field-0.0) c.from_residual-in_err-scenario.ensures.1) c.in_ok-file.ensures.input (rw c.as_slice.ensures.value at c.in_err-scenario.ensures.said) (kept _)

pub returns-clause-ran : goal.returns-clause-ran
returns-clause-ran g c =
    engine_ran swept c.sweep_scenario.result c.in_ok-file.file.items (script c.in_ok-scenario.scenario) _ _
    c.in_ok-file.ensures.input (rw c.as_slice.ensures.value at c.in_ok-scenario.ensures.said) c.sweep_scenario.ensures.written c.sweep_scenario.ensures.front c.sweep_scenario.ensures.fails.fault c.sweep_scenario.ensures.fails.counted

pub returns-clause-swept : goal.returns-clause-swept
returns-clause-swept g c =
    input_answer c.sweep_scenario.result (λ said status. ReportsSweep said status (g.W.Sink.taken c.args.output.now) (g.W.Sink.taken c.sweep_scenario.new.output)) c.in_ok-file.file.items (script c.in_ok-scenario.scenario) _ _
    c.in_ok-file.ensures.input (rw c.as_slice.ensures.value at c.in_ok-scenario.ensures.said) c.sweep_scenario.ensures.swept
