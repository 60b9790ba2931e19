use Rattle.std.proofs.Common.{◌≡◌, ◌∙◌, ap, length, refl}
use Rattle.calls.proofs.scenario_proofs.CutTexts.{scenario_reports_at_limit}
use Rattle.calls.proofs.scenario_proofs.files.EngineEnds.{kept, ran_to_end, ran_to_line}
use Rattle.calls.specs.scenario.{line_numbers, scenario_of, script}
use Rattle.run_state.specs.{state_text, stated, stated_in}
use Rattle.run_state.proofs.WholeInputs.{memory_ran, ran_whole}
use Rattle.run_state.proofs.stating.run_state.Goals as goal

pub returns-in_err-scenario-clause-ran : goal.returns-in_err-scenario-clause-ran
returns-in_err-scenario-clause-ran g c =
    let bytes = c.in_ok-file.file.items in
    ran_whole (stated_in c.args.events) c.from_residual-in_err-scenario.result bytes _ _ c.in_ok-file.ensures.input
    (ran_to_line scenario_of (stated_in c.args.events bytes) scenario_reports_at_limit c.from_residual-in_err-scenario.result c.in_err-scenario.field-0.0 bytes _ _
    c.from_residual-in_err-scenario.ensures.1 c.in_ok-file.ensures.input (rw c.as_slice.ensures.value at c.in_err-scenario.ensures.said) (kept _))

pub returns-in_err-text-clause-ran : goal.returns-in_err-text-clause-ran
returns-in_err-text-clause-ran g c = memory_ran c.from_residual-in_err-text.result (state_text c.args.events) _ _ c.from_residual-in_err-text.ensures.1 refl

pub returns-clause-ran : goal.returns-clause-ran
returns-clause-ran g c =
    let bytes = c.in_ok-file.file.items in
    let said = script c.in_ok-scenario.scenario in
    let numbers : c.in_ok-scenario.scenario.numbers.items ≡ line_numbers bytes (length said.lines) = rw c.as_slice.ensures.value at c.in_ok-scenario.ensures.numbers in
    let text : c.as_slice-2.result.now ≡ stated_in c.args.events bytes said = c.as_slice-2.ensures.value ∙ c.in_ok-text.ensures ∙ ap (λ ns. stated c.args.events ns said) numbers in
    ran_whole (stated_in c.args.events) c.write_all.result bytes _ _ c.in_ok-file.ensures.input
    (ran_to_end scenario_of (stated_in c.args.events bytes) scenario_reports_at_limit c.write_all.result bytes said _ _
    c.in_ok-file.ensures.input (rw c.as_slice.ensures.value at c.in_ok-scenario.ensures.said) (rw text at c.write_all.ensures.written) (rw text at c.write_all.ensures.front) c.write_all.ensures.fault c.write_all.ensures.failures)
