use Rattle.std.proofs.Common.{ap, cond, sym, ◌∙◌}
use Rattle.calls.specs.{entry_with}
use Rattle.calls.proofs.ListSteps.{lists_entry}
use Rattle.calls.proofs.table.CallTable.list.Goals as goal

pub returns-then-is_some-clause-lists : goal.returns-then-is_some-clause-lists
returns-then-is_some-clause-lists c =
    let on = c.go_on-ended.ensures in
    let again = c.replaced-replaced.ensures in
    lists_entry c.args.self.now c.go_on-ended.new.self c.args.overlapped (entry_with c.args.process c.args.access.now c.args.marks.now) c.replaced-replaced.result c.go_on-ended.result _
    (record { setup = on.setup; count = on.count; few = c.requires; goes = on.step; stray = on.stray; replaced = again.call; stray_replaced = again.stray })
    (ap (λ b. cond b c.replaced-replaced.result c.go_on-ended.result) (sym c.if-is_some.true ∙ c.is_some.ensures))

pub returns-else-is_some-clause-lists : goal.returns-else-is_some-clause-lists
returns-else-is_some-clause-lists c =
    let on = c.go_on-ended.ensures in
    let again = c.replaced-replaced.ensures in
    lists_entry c.args.self.now c.go_on-ended.new.self c.args.overlapped (entry_with c.args.process c.args.access.now c.args.marks.now) c.replaced-replaced.result c.go_on-ended.result _
    (record { setup = on.setup; count = on.count; few = c.requires; goes = on.step; stray = on.stray; replaced = again.call; stray_replaced = again.stray })
    (ap (λ b. cond b c.replaced-replaced.result c.go_on-ended.result) (sym c.if-is_some.false ∙ c.is_some.ensures))
