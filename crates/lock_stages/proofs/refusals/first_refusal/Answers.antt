use Rattle.std.proofs.Common.{sym, ◌∙◌}
use Rattle.lock_stages.proofs.Refused.{not_refused}
use Rattle.lock_stages.proofs.refusals.first_refusal.Goals as goal

pub loop-mark-preserved : goal.loop-mark-preserved
loop-mark-preserved c = c.loop-mark.invariant
    ∙ not_refused c.loop-mark.at c.stage_after-at.result c.args.is_open c.args.marks.now c.loop-mark.mark-index _ c.loop-mark-test.true
    (sym c.mark_refusal.ensures ∙ c.in_default.is) (c.stage_after-at.ensures c.loop-mark.at)
