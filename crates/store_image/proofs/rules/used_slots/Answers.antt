use Rattle.std.proofs.Common.{◌∙◌, ap, sym}
use Rattle.store_image.proofs.SlotSearch.{unused_found, used_passed}
use Rattle.store_image.specs.{is_unused}
use Rattle.store_image.proofs.rules.used_slots.Goals as goal

pub returns-then-is_unused : goal.returns-then-is_unused
returns-then-is_unused c = unused_found c.args.slots c.args.bytes.now c.loop-place.place c.loop-place-test.true c.loop-place.invariant (sym (c.is_unused.ensures ∙ ap is_unused c.slot_at.ensures.slot) ∙ c.if-is_unused.true)

pub loop-place-preserved : goal.loop-place-preserved
loop-place-preserved c = used_passed c.args.slots c.args.bytes.now c.loop-place.place c.loop-place-test.true c.loop-place.invariant (sym (c.is_unused.ensures ∙ ap is_unused c.slot_at.ensures.slot) ∙ c.if-is_unused.false)
