use Rattle.std.proofs.Common.{◌++◌, ap, sym, ◌∙◌}
use Rattle.race.specs.{called_of}
use Rattle.race.proofs.Parts.{items_all, items_more}
use Rattle.race.proofs.plans.plan_of.Goals as goal

pub loop-line-preserved : goal.loop-line-preserved
loop-line-preserved c =
    let called = called_of c.args.process in
    let line = c.line-item.result in
    c.in_ok-keep_call.ensures ∙ ap (λ plan. plan ++ called line) c.loop-line.invariant ∙ sym (items_more called c.args.lines.now c.loop-line.line-index line c.loop-line-test.true c.line-item.is)

pub returns : goal.returns
returns c = c.loop-line.invariant ∙ items_all (called_of c.args.process) c.args.lines.now c.loop-line.line-index c.loop-line-test.false
