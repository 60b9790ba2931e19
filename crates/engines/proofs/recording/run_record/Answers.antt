use Rattle.std.proofs.Common.{◌≡◌}
use Rattle.scenario.proofs.CutTexts.{scenario_reports_at_limit}
use Rattle.scenario.proofs.files.EngineEnds.{kept, ran_to_line}
use Rattle.scenario.specs.{scenario_of, script}
use Rattle.scenario.specs.files.declared.faults.Fault.TheVariants.{Line}
use Rattle.engines.specs.{WritesRecord, recorded}
use Rattle.scenario_run.specs.{ended}
use Rattle.scenario_run.proofs.ReplayEnds.{ended_err, engine_ran, input_answer}
use Rattle.engines.proofs.FitRecords.{records_again, records_fit}
use Rattle.engines.proofs.RunsAgain.{run_again, written_again}
use Rattle.engines.proofs.recording.run_record.Goals as goal

pub returns-in_err-scenario-clause-ran : goal.returns-in_err-scenario-clause-ran
returns-in_err-scenario-clause-ran g c =
    ran_to_line scenario_of recorded scenario_reports_at_limit (ended c.from_residual-in_err-scenario.result) c.in_err-scenario.field-0.0 c.in_ok-file.file.items _ _
    (ended_err c.from_residual-in_err-scenario.result (λ reported. reported ≡ Line c.in_err-scenario.field-0.0) c.from_residual-in_err-scenario.ensures.1) c.in_ok-file.ensures.input (rw c.as_slice.ensures.value at c.in_err-scenario.ensures.said) (kept _)

pub returns-clause-ran : goal.returns-clause-ran
returns-clause-ran g c =
    engine_ran recorded c.record_scenario.result c.in_ok-file.file.items (script c.in_ok-scenario.scenario) _ _
    c.in_ok-file.ensures.input (rw c.as_slice.ensures.value at c.in_ok-scenario.ensures.said) c.record_scenario.ensures.written c.record_scenario.ensures.front c.record_scenario.ensures.fails.fault c.record_scenario.ensures.fails.counted

pub returns-clause-read_again : goal.returns-clause-read_again
returns-clause-read_again g c =
    let good = rw c.as_slice.ensures.value at c.in_ok-scenario.ensures.said in
    input_answer c.record_scenario.result (λ said done. WritesRecord said (g.W.Sink.taken c.args.output.now) (g.W.Sink.taken c.record_scenario.new.output)) c.in_ok-file.file.items (script c.in_ok-scenario.scenario) _ _
    c.in_ok-file.ensures.input good (written_again c.record_scenario.result c.in_ok-file.file.items (script c.in_ok-scenario.scenario) _ _ good c.record_scenario.ensures.written)

-- the facts about all runs and records hold at each way out
pub returns-in_err-file-clause-runs : goal.returns-in_err-file-clause-runs
returns-in_err-file-clause-runs g c = run_again

pub returns-in_err-file-clause-records : goal.returns-in_err-file-clause-records
returns-in_err-file-clause-records g c = records_again

pub returns-in_err-file-clause-fit : goal.returns-in_err-file-clause-fit
returns-in_err-file-clause-fit g c = records_fit

pub returns-in_err-scenario-clause-runs : goal.returns-in_err-scenario-clause-runs
returns-in_err-scenario-clause-runs g c = run_again

pub returns-in_err-scenario-clause-records : goal.returns-in_err-scenario-clause-records
returns-in_err-scenario-clause-records g c = records_again

pub returns-in_err-scenario-clause-fit : goal.returns-in_err-scenario-clause-fit
returns-in_err-scenario-clause-fit g c = records_fit

pub returns-clause-runs : goal.returns-clause-runs
returns-clause-runs g c = run_again

pub returns-clause-records : goal.returns-clause-records
returns-clause-records g c = records_again

pub returns-clause-fit : goal.returns-clause-fit
returns-clause-fit g c = records_fit
