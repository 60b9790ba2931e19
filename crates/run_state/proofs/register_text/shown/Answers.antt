use Rattle.std.proofs.Common.{◌≡◌, ◌*◌, ℕ, List, false, cond, refl, take, ap, sym, ◌∙◌, arith, inl, inr}
use Rattle.std.proofs.lemmas.Result.{IfOk-weaker}
use Rattle.std.specs.Fmt.{decimal}
use Rattle.model.specs.declared.access.Field.TheVariants.{Choosing, Ticket, Commit, Stamp0, Stamp1, Image0, Image1}
use Rattle.model.specs.{Field, bytes_of_bits, image_bytes, width}
use Rattle.model.specs.safe_number.{bits_in, number_of_bits}
use Rattle.run_state.specs.{image_text, is_image, shown}
use Rattle.run_state.proofs.RegisterBytes.{bits-begun, bytes-back}
use Rattle.run_state.proofs.register_text.shown.Goals as goal

number-field : (field : Field) → (field ≡ Image0 → ⊥) → (field ≡ Image1 → ⊥) → is_image field ≡ false
number-field Choosing first second = refl
number-field Ticket first second = refl
number-field Commit first second = refl
number-field Stamp0 first second = refl
number-field Stamp1 first second = refl
number-field Image0 first second = absurd (first refl)
number-field Image1 first second = absurd (second refl)

pub returns-in-Image0 : goal.returns-in-Image0
returns-in-Image0 c =
    let s = c.args.setup.now in
    let bytes : List ℕ = c.args.bytes.now in
    let n : ℕ = image_bytes s in
    let room : c.from-length.result ≡ n = c.from-length.ensures ∙ c.image_bytes.ensures.bytes in
    IfOk-weaker c.image_text.result _ _ (λ text is bits wide begin.
    let made : bits_in bytes (width s c.args.field) ≡ bits = bits-begun bytes bits (width s c.args.field) wide begin in
    let whole : take n bytes ≡ bytes_of_bits n (bits_in bytes (8 * n)) = bytes-back bytes n (omega (arith, c.told-bytes, c.image_bytes.ensures.most, c.image_bytes.ensures.bytes)) c.fits-bytes in
    is ∙ ap (λ k. image_text s (take k bytes)) room ∙ ap (image_text s) whole ∙ elim c.in-Image0.is [
      | inl first ↦ (λ i. shown s (sym first i) (bits_in bytes (width s (sym first i)))) ∙ ap (shown s c.args.field) made
      | inr second ↦ (λ i. shown s (sym second i) (bits_in bytes (width s (sym second i)))) ∙ ap (shown s c.args.field) made
    ]) c.image_text.ensures

pub returns-in_default : goal.returns-in_default
returns-in_default c =
    let s = c.args.setup.now in
    let bytes : List ℕ = c.args.bytes.now in
    IfOk-weaker c.number_text.result _ _ (λ text is bits wide begin.
    is ∙ ap decimal (c.number_in.ensures ∙ ap number_of_bits (ap (bits_in bytes) c.width_of.ensures.width ∙ bits-begun bytes bits (width s c.args.field) wide begin))
    ∙ sym (ap (λ b. cond b (image_text s (bytes_of_bits (image_bytes s) bits)) (decimal (number_of_bits bits))) (number-field c.args.field c.in_default.not-Image0 c.in_default.not-Image1))) c.number_text.ensures
