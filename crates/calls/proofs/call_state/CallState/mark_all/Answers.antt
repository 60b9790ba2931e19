use Rattle.std.proofs.Common.{◌+◌, drop, ap, sym, ◌∙◌}
use Rattle.std.proofs.lemmas.List.{at_drop_all, at_drop_more}
use Rattle.calls.specs.{marked_all, marked_on}
use Rattle.calls.proofs.call_state.CallState.mark_all.Goals as goal

pub loop-mark-preserved : goal.loop-mark-preserved
loop-mark-preserved c =
    let i = c.loop-mark.mark-index in
    let on = marked_all c.args.number in
    c.loop-mark.invariant ∙ at_drop_more (on c.loop-mark.self) c.args.marks.now i c.mark-item.result c.loop-mark-test.true
    ∙ ap (λ m. on (marked_on c.args.number c.loop-mark.self m) (drop (i + 1) c.args.marks.now)) (sym c.mark-item.is) ∙ ap (λ k. on k (drop (i + 1) c.args.marks.now)) (sym c.mark.ensures)

pub returns : goal.returns
returns c = sym (c.loop-mark.invariant ∙ at_drop_all (marked_all c.args.number c.loop-mark.self) c.args.marks.now c.loop-mark.mark-index c.loop-mark-test.false)
