use Rattle.std.proofs.Common.{◌≡◌, ◌∙◌, ◌+◌, ◌-◌, ◌*◌, ◌++◌, take, drop, refl, arith}
use Rattle.store_image.proofs.ImageBytes.{image_kept, store_kept, kept_image, store_read-image, IsImage}
use Rattle.store_image.proofs.Puts.{with_pair, IsStore-with_pair, IsImage-with_pair}
use Rattle.store_image.specs.{IsStore}
use Rattle.store_image.proofs.image.Image.set_pair.Goals as goal

store : (c : goal.After-copy_from_slice) → IsStore c.args.self.now
store c = let i = c.self.inside in store_kept c.args.self.now i.used i.slots i.callers i.bytes c.self.invariant c.self.view_is

then_store : (c : goal.After-copy_from_slice) → IsStore (with_pair c.args.self.now c.args.name.now c.args.value.now)
then_store c = IsStore-with_pair c.args.self.now c.args.name.now c.args.value.now (store c) c.slot_of.ensures.valid (omega (arith, c.requires.here, c.requires.room))

image : (c : goal.After-copy_from_slice) → IsImage (with_pair c.args.self.now c.args.name.now c.args.value.now) c.max-self-inside.result c.self.inside.slots c.self.inside.callers (take (23 * c.args.place) c.self.inside.bytes ++ (c.copy_from_slice.new.self ++ drop (23 * c.args.place + 23 - 23 * c.args.place) (drop (23 * c.args.place) c.self.inside.bytes)))
image c =
    let i = c.self.inside in
    let long : 23 * c.args.place + 23 - 23 * c.args.place ≡ 23 = omega arith in
    IsImage-with_pair c.args.self.now c.args.name.now c.args.value.now i.used i.slots i.callers c.max-self-inside.result c.args.place (23 * c.args.place) (23 * c.args.place + 23 - 23 * c.args.place) i.bytes c.copy_from_slice.new.self (store c) c.slot_of.ensures.valid c.requires.here c.requires.room (image_kept c.args.self.now i.used i.slots i.callers i.bytes c.self.invariant c.self.view_is) c.max-self-inside.ensures (c.copy_from_slice.ensures.after ∙ c.slot_of.ensures.bytes) refl long

pub invariant_of-self : goal.invariant_of-self
invariant_of-self c = kept_image _ _ _ _ _ (then_store c) (image c)

pub returns : goal.returns
returns c = store_read-image _ _ _ _ _ (then_store c) (image c)
