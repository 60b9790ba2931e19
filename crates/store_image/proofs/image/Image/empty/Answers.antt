use Rattle.std.proofs.Common.{refl}
use Rattle.store_image.proofs.ImageBytes.{IsImage-empty_store, IsStore-empty_store, kept_image, store_read-image}
use Rattle.plain_store.specs.{empty_store}
use Rattle.store_image.proofs.image.Image.empty.Goals as goal

pub invariant_of-result : goal.invariant_of-result
invariant_of-result c =
    let q = c.requires in
    kept_image (empty_store c.args.slots c.args.callers) _ _ _ _ (IsStore-empty_store c.args.slots c.args.callers q.some_slots q.few_slots q.few_callers) (IsImage-empty_store c.args.slots c.args.callers _ q.some_slots q.few_slots q.few_callers refl)

pub returns : goal.returns
returns c =
    let q = c.requires in
    store_read-image (empty_store c.args.slots c.args.callers) _ _ _ _ (IsStore-empty_store c.args.slots c.args.callers q.some_slots q.few_slots q.few_callers) (IsImage-empty_store c.args.slots c.args.callers _ q.some_slots q.few_slots q.few_callers refl)
