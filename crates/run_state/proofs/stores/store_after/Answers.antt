use Rattle.std.proofs.Common.{ap, sym, ◌∙◌}
use Rattle.std.proofs.lemmas.List.{take_all}
use Rattle.std.proofs.lemmas.List.Sums.{fold_more}
use Rattle.plain_store.specs.{Contents, after, opening_store}
use Rattle.model.specs.{Taken, store_after}
use Rattle.run_state.proofs.stores.store_after.Goals as goal

pub loop-taken-preserved : goal.loop-taken-preserved
loop-taken-preserved c =
    c.in_ok-apply.ensures.contents ∙ (λ i. after (c.loop-taken.invariant i) (c.taken-item.is i).command (record { process = (c.taken-item.is i).process; number = (c.taken-item.is i).number }))
    ∙ sym (fold_more (λ (store : Contents) (t : Taken). after store t.command (record { process = t.process; number = t.number })) (opening_store c.args.setup.now) c.args.history.now c.loop-taken.taken-index c.taken-item.result c.loop-taken-test.true)

pub returns : goal.returns
returns c = c.loop-taken.invariant ∙ ap (store_after c.args.setup.now) (take_all c.loop-taken.taken-index c.args.history.now c.loop-taken-test.false)
