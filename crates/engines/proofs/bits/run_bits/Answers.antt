use Rattle.std.proofs.Common.{◌≡◌, ◌∙◌, ap, refl}
use Rattle.scenario.proofs.files.CutTexts.{reports_at_limit}
use Rattle.scenario.specs.{bits_grammar, bits_of}
use Rattle.scenario.proofs.files.EngineEnds.{kept, ran_to_line, ran_to_end}
use Rattle.engines.specs.Bits.{bits_printed, bits_text}
use Rattle.engines.proofs.Lists.{unwritten}
use Rattle.engines.proofs.bits.run_bits.Goals as goal

pub returns-in_err-lines-clause-ran : goal.returns-in_err-lines-clause-ran
returns-in_err-lines-clause-ran g c =
    ran_to_line bits_of bits_printed (reports_at_limit bits_grammar) c.from_residual-in_err-lines.result c.in_err-lines.field-0.0 c.in_ok-file.file.items _ _
    c.from_residual-in_err-lines.ensures.1 c.in_ok-file.ensures.input (rw c.as_slice.ensures.value at c.in_err-lines.ensures) (kept _)

pub returns-in_err-text-clause-ran : goal.returns-in_err-text-clause-ran
returns-in_err-text-clause-ran g c = unwritten bits_text c.from_residual-in_err-text.result _ _ c.from_residual-in_err-text.ensures.1 refl

pub returns-clause-ran : goal.returns-clause-ran
returns-clause-ran g c =
    let text : c.as_bytes.result.now ≡ bits_printed c.in_ok-lines.lines.items = c.as_bytes.ensures.value ∙ c.in_ok-text.ensures ∙ ap bits_printed c.as_slice-2.ensures.value in
    ran_to_end bits_of bits_printed (reports_at_limit bits_grammar) c.write_all.result c.in_ok-file.file.items c.in_ok-lines.lines.items _ _
    c.in_ok-file.ensures.input (rw c.as_slice.ensures.value at c.in_ok-lines.ensures) (rw text at c.write_all.ensures.written) (rw text at c.write_all.ensures.front) c.write_all.ensures.fault c.write_all.ensures.failures
