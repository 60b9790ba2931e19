use Rattle.std.proofs.Common.{◌≡◌, ◌∙◌, refl}
use Rattle.scenario.proofs.CutTexts.{scenario_reports_at_limit}
use Rattle.scenario.specs.{scenario_of, script}
use Rattle.scenario.proofs.files.EngineEnds.{kept, ran_to_line, ran_to_end}
use Rattle.engines.specs.Plain.{plain_text, printed}
use Rattle.engines.proofs.Lists.{unwritten}
use Rattle.engines.proofs.plain.run_plain.Goals as goal

pub returns-in_err-scenario-clause-ran : goal.returns-in_err-scenario-clause-ran
returns-in_err-scenario-clause-ran g c =
    ran_to_line scenario_of printed scenario_reports_at_limit c.from_residual-in_err-scenario.result c.in_err-scenario.field-0.0 c.in_ok-file.file.items _ _
    c.from_residual-in_err-scenario.ensures.1 c.in_ok-file.ensures.input (rw c.as_slice.ensures.value at c.in_err-scenario.ensures.said) (kept _)

pub returns-in_err-text-clause-ran : goal.returns-in_err-text-clause-ran
returns-in_err-text-clause-ran g c = unwritten plain_text c.from_residual-in_err-text.result _ _ c.from_residual-in_err-text.ensures.1 refl

pub returns-clause-ran : goal.returns-clause-ran
returns-clause-ran g c =
    let text : c.as_bytes.result.now ≡ printed (script c.in_ok-scenario.scenario) = c.as_bytes.ensures.value ∙ c.in_ok-text.ensures in
    ran_to_end scenario_of printed scenario_reports_at_limit c.write_all.result c.in_ok-file.file.items (script c.in_ok-scenario.scenario) _ _
    c.in_ok-file.ensures.input (rw c.as_slice.ensures.value at c.in_ok-scenario.ensures.said) (rw text at c.write_all.ensures.written) (rw text at c.write_all.ensures.front) c.write_all.ensures.fault c.write_all.ensures.failures
