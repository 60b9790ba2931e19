use Rattle.std.proofs.Common.{◌++◌, ℕ, List, append-nil, ap, arith, sym, ◌∙◌}
use Rattle.std.proofs.lemmas.List.{drop_all}
use Rattle.std.specs.String.{string_bytes}
use Rattle.safe_bit.specs.Cell.{Cell}
use Rattle.scenario.specs.{BitLine}
use Rattle.engines.specs.{cell_text_from}
use Rattle.engines.proofs.BitRule.{printed_by_rule}
use Rattle.engines.proofs.bits.text_of.Goals as goal

-- no line yet
pub loop-line-init : goal.loop-line-init
loop-line-init c =
    let lines = c.args.lines.now in
    ap (λ (bytes : List ℕ). bytes ++ cell_text_from c.new-bit.result lines) c.new-text.ensures.bytes ∙ ap (λ (bit : Cell). cell_text_from bit lines) c.new-bit.ensures ∙ printed_by_rule lines

-- no line remains
pub returns : goal.returns
returns c =
    let text = string_bytes c.loop-line.text in
    sym (append-nil text) ∙ ap (λ (rest : List BitLine). text ++ cell_text_from c.loop-line.bit rest) (sym (drop_all c.loop-line.line-index c.args.lines.now (omega arith))) ∙ c.loop-line.invariant
