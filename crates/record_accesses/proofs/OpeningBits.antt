-- What bits open at.
use Rattle.std.proofs.Common.{◌≡◌, ◌<◌, false, slice_index_or, sym, subst, ◌∙◌}
use Rattle.plain_store.specs.{Setup, opening_store}
use Rattle.model.proofs.safe_number.Numbers.{get-bits}
use Rattle.model.specs.{Access, opening_bit, opening_bits, width}
use Rattle.model.specs.declared.access.Field.TheVariants.{Image0}
use Rattle.model.specs.safe_number.{bit_in}
use Rattle.store_image.specs.{image_of}

-- a bit of the first image of process 0 opens as in the image of the opening store
pub opening-image : (s : Setup) (a : Access) → a.field ≡ Image0 → a.owner ≡ 0 → a.bit < width s a.field → bit_in (image_of (opening_store s)) a.bit ≡ opening_bit s a
opening-image s a field owner within =
    sym (get-bits (image_of (opening_store s)) (width s Image0) a.bit (subst (λ f. a.bit < width s f) field within))
    ∙ (λ i. slice_index_or (opening_bits s (sym owner i) (sym field i)) a.bit false)
