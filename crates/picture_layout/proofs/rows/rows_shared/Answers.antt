use Rattle.std.proofs.Common.{◌++◌, ◌∙◌, arith, ap, filter_map, map, sym, option_to_list}
use Rattle.std.proofs.lemmas.List.{take_all}
use Rattle.picture_layout.specs.{row_shared, wording}
use Rattle.picture_layout.proofs.Lists.{shared_more}
use Rattle.picture_layout.proofs.rows.rows_shared.Goals as goal

pub loop-line-init : goal.loop-line-init
loop-line-init c = ap (map wording) c.new-rows.ensures.items

pub loop-line-preserved : goal.loop-line-preserved
loop-line-preserved c =
    c.in_ok-push_shared.ensures ∙ ap (λ l. l ++ option_to_list (row_shared c.line-item.result)) c.loop-line.invariant
    ∙ sym (shared_more c.args.lines.now c.loop-line.line-index c.line-item.result (omega arith) c.line-item.is)

pub returns : goal.returns
returns c = c.loop-line.invariant ∙ ap (filter_map row_shared) (take_all c.loop-line.line-index c.args.lines.now c.loop-line-test.false)
