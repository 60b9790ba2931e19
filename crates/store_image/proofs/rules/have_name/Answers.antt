use Rattle.std.proofs.Common.{◌∙◌, ap, sym}
use Rattle.std.specs.Str.{bytes_eq}
use Rattle.store_image.proofs.SlotSearch.{name_found, name_passed}
use Rattle.store_image.specs.{name_in}
use Rattle.store_image.proofs.rules.have_name.Goals as goal

pub returns-then-has_name : goal.returns-then-has_name
returns-then-has_name c = sym (name_found c.args.slots c.args.bytes.now c.args.name.now c.loop-place.place c.loop-place-test.true c.loop-place.invariant (sym (c.has_name.ensures ∙ ap (λ slot. bytes_eq c.args.name.now (name_in slot)) c.slot_at.ensures.slot) ∙ c.if-has_name.true))

pub loop-place-preserved : goal.loop-place-preserved
loop-place-preserved c = name_passed c.args.slots c.args.bytes.now c.args.name.now c.loop-place.place c.loop-place-test.true c.loop-place.invariant (sym (c.has_name.ensures ∙ ap (λ slot. bytes_eq c.args.name.now (name_in slot)) c.slot_at.ensures.slot) ∙ c.if-has_name.false)
