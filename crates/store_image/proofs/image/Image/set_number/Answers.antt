use Rattle.std.proofs.Common.{◌≡◌, ◌∙◌, ◌+◌, ◌-◌, ◌*◌, ◌++◌, take, drop, arith}
use Rattle.store_image.proofs.ImageBytes.{image_kept, store_kept, kept_image, store_read-image, IsImage}
use Rattle.store_image.proofs.Puts.{with_number, IsStore-with_number, IsImage-with_number}
use Rattle.store_image.specs.{IsStore}
use Rattle.store_image.proofs.image.Image.set_number.Goals as goal

store : (c : goal.After-copy_from_slice) → IsStore c.args.self.now
store c = let i = c.self.inside in store_kept c.args.self.now i.used i.slots i.callers i.bytes c.self.invariant c.self.view_is

then_store : (c : goal.After-copy_from_slice) → IsStore (with_number c.args.self.now c.args.process c.args.number)
then_store c = IsStore-with_number c.args.self.now c.args.process c.args.number (store c) c.ranges.number.fits

image : (c : goal.After-copy_from_slice) → let at = 23 * c.from.result + 2 * c.from-2.result in IsImage (with_number c.args.self.now c.args.process c.args.number) c.self.inside.used c.self.inside.slots c.self.inside.callers (take at c.self.inside.bytes ++ (c.copy_from_slice.new.self ++ drop (at + 2 - at) (drop at c.self.inside.bytes)))
image c =
    let i = c.self.inside in
    let kept : IsImage c.args.self.now i.used i.slots i.callers i.bytes = image_kept c.args.self.now i.used i.slots i.callers i.bytes c.self.invariant c.self.view_is in
    let at = 23 * c.from.result + 2 * c.from-2.result in
    let long : at + 2 - at ≡ 2 = omega arith in
    let start : at ≡ 23 * c.args.self.now.slots + 2 * c.args.process = omega (arith, kept.all_slots, c.from.ensures, c.from-2.ensures) in
    IsImage-with_number c.args.self.now c.args.process c.args.number i.used i.slots i.callers at (at + 2 - at) i.bytes c.copy_from_slice.new.self (store c) c.ranges.number.fits c.requires kept (c.copy_from_slice.ensures.after ∙ c.number_bytes.ensures) start long

pub invariant_of-self : goal.invariant_of-self
invariant_of-self c = kept_image _ _ _ _ _ (then_store c) (image c)

pub returns : goal.returns
returns c = store_read-image _ _ _ _ _ (then_store c) (image c)
