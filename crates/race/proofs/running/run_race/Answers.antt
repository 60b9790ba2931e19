use Rattle.std.specs.String.{string_bytes}
use Rattle.scenario.proofs.files.EngineEnds.{kept}
use Rattle.scenario.specs.{script}
use Rattle.race.proofs.RaceEnds.{ran_to_cut, ran_to_end, ran_to_fault, ran_to_no_text}
use Rattle.race.proofs.running.run_race.Goals as goal

pub returns-in_err-scenario-clause-ran : goal.returns-in_err-scenario-clause-ran
returns-in_err-scenario-clause-ran g c =
    ran_to_fault c.from_residual-in_err-scenario.result c.in_err-scenario.field-0.0 c.in_ok-file.file.items _ _ c.from_residual-in_err-scenario.ensures.1 c.in_ok-file.ensures.input
    (rw c.as_slice.ensures.value at c.in_err-scenario.ensures.said) (kept _)

pub returns-in_err-report-clause-ran : goal.returns-in_err-report-clause-ran
returns-in_err-report-clause-ran g c =
    ran_to_no_text c.from_residual-in_err-report.result c.in_err-report.field-0.0 c.in_ok-file.file.items (script c.in_ok-scenario.scenario) _ _
    c.from_residual-in_err-report.ensures.1 c.in_err-report.ensures.fault c.in_ok-file.ensures.input (rw c.as_slice.ensures.value at c.in_ok-scenario.ensures.said) (kept _)

pub returns-in_err-write_all-clause-ran : goal.returns-in_err-write_all-clause-ran
returns-in_err-write_all-clause-ran g c =
    ran_to_cut c.from_residual-in_err-write_all.result c.in_err-write_all.field-0.0 c.in_ok-report.report.verdict (string_bytes c.in_ok-report.report.text) c.in_ok-file.file.items (script c.in_ok-scenario.scenario) _ _
    c.from_residual-in_err-write_all.ensures.1 c.in_err-write_all.ensures.fault c.in_ok-file.ensures.input (rw c.as_slice.ensures.value at c.in_ok-scenario.ensures.said) c.in_ok-report.ensures.raced
    (rw c.as_bytes.ensures.value at c.in_err-write_all.ensures.front) c.in_err-write_all.ensures.failures

pub returns-clause-ran : goal.returns-clause-ran
returns-clause-ran g c =
    ran_to_end c.in_ok-report.report.verdict c.race_status.result (string_bytes c.in_ok-report.report.text) c.in_ok-file.file.items (script c.in_ok-scenario.scenario) _ _ _ _
    c.race_status.ensures c.in_ok-file.ensures.input (rw c.as_slice.ensures.value at c.in_ok-scenario.ensures.said) c.in_ok-report.ensures.raced (rw c.as_bytes.ensures.value at c.in_ok-write_all.ensures.written)
