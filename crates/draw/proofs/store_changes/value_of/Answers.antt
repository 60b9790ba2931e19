use Rattle.std.proofs.Common.{◌∙◌, sym}
use Rattle.draw.proofs.Changing.{found_here, passed_over}
use Rattle.draw.proofs.store_changes.value_of.Goals as goal

pub returns-then-eq : goal.returns-then-eq
returns-then-eq g c =
    sym (found_here (g.S.Store.contents c.args.store.now).pairs c.loop-place.place c.unwrap-other.result c.args.name.now (sym c.entry.ensures ∙ c.unwrap-other.ensures) (sym c.eq.ensures ∙ c.if-eq.true))
    ∙ c.loop-place.invariant

pub loop-place-preserved : goal.loop-place-preserved
loop-place-preserved g c =
    sym (passed_over (g.S.Store.contents c.args.store.now).pairs c.loop-place.place c.unwrap-other.result c.args.name.now (sym c.entry.ensures ∙ c.unwrap-other.ensures) (sym c.eq.ensures ∙ c.if-eq.false))
    ∙ c.loop-place.invariant
