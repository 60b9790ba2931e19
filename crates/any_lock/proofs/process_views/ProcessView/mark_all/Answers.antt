use Rattle.std.proofs.Common.{◌+◌, drop, ap, sym, ◌∙◌}
use Rattle.any_lock.specs.{marked_all, refusal_on}
use Rattle.any_lock.proofs.Loops.{dropped_all, dropped_more, refused_here, refused_later}
use Rattle.any_lock.proofs.process_views.ProcessView.mark_all.Goals as goal

pub loop-mark-preserved : goal.loop-mark-preserved
loop-mark-preserved c =
    let more = dropped_more c.args.marks.now c.loop-mark.mark-index c.mark-item.result c.loop-mark-test.true c.mark-item.is in
    let on = c.mark.ensures in
    record {
      refused = c.loop-mark.invariant.refused ∙ ap (refusal_on c.args.setup.now c.args.entry c.loop-mark.self) more
          ∙ refused_later c.args.setup.now c.args.entry c.loop-mark.self c.mark-item.result (drop (c.loop-mark.mark-index + 1) c.args.marks.now) (sym c.refuses_mark.ensures ∙ c.in_default.is)
          ∙ ap (λ k. refusal_on c.args.setup.now c.args.entry k (drop (c.loop-mark.mark-index + 1) c.args.marks.now)) (sym on);
      marked = c.loop-mark.invariant.marked ∙ ap (marked_all c.args.setup.now c.args.entry c.loop-mark.self) more ∙ ap (λ k. marked_all c.args.setup.now c.args.entry k (drop (c.loop-mark.mark-index + 1) c.args.marks.now)) (sym on);
    }

pub returns-in-Some-clause-refused : goal.returns-in-Some-clause-refused
returns-in-Some-clause-refused c =
    let more = dropped_more c.args.marks.now c.loop-mark.mark-index c.mark-item.result c.loop-mark-test.true c.mark-item.is in
    c.loop-mark.invariant.refused ∙ ap (refusal_on c.args.setup.now c.args.entry c.loop-mark.self) more
    ∙ refused_here c.args.setup.now c.args.entry c.loop-mark.self c.mark-item.result (drop (c.loop-mark.mark-index + 1) c.args.marks.now) c.in-Some.refusal (sym c.refuses_mark.ensures ∙ c.in-Some.is)

pub returns : goal.returns
returns c =
    let none = dropped_all c.args.marks.now c.loop-mark.mark-index c.loop-mark-test.false in
    record {
      marked = sym (c.loop-mark.invariant.marked ∙ ap (marked_all c.args.setup.now c.args.entry c.loop-mark.self) none);
      allowed = c.loop-mark.invariant.refused ∙ ap (refusal_on c.args.setup.now c.args.entry c.loop-mark.self) none;
      refused = tt;
    }
