use Rattle.std.proofs.Common.{◌≡◌, ◌*◌, ℕ, length, ap, subst, ◌∙◌, arith}
use Rattle.std.proofs.lemmas.List.{length-replicate}
use Rattle.plain_store.specs.{callers_of, opening_store}
use Rattle.model.specs.{image_bytes}
use Rattle.model.specs.safe_number.{bits_in}
use Rattle.model.specs.store_image.{IsStore, image_of}
use Rattle.model.proofs.store_image.ImageBytes.{length-image_of}
use Rattle.calls.specs.world.process.registers.{register_bytes}
use Rattle.run_state.proofs.copies.opening_image.Goals as goal

pub returns : goal.returns
returns c =
    let s = c.args.setup.now in
    let store : IsStore (opening_store s) = subst IsStore c.in_ok-image.ensures c.bytes.ensures.store in
    let is : c.bytes.result.now ≡ image_of (opening_store s) = c.bytes.ensures.image ∙ ap image_of c.in_ok-image.ensures in
    let long : length c.bytes.result.now ≡ image_bytes s = omega (arith, ap length is, length-image_of (opening_store s) store, length-replicate {A = ℕ} (callers_of s) 0) in
    c.register_image.ensures ∙ (λ i. register_bytes (bits_in (is i) (8 * long i)))
