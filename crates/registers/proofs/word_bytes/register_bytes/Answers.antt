use Rattle.std.proofs.Common.{◌*◌, ◌<◌, ℕ, false, refl, subst, sym, ◌∙◌, arith, inl, inr}
use Rattle.std.proofs.lemmas.Bool.{cases_lt}
use Rattle.std.proofs.lemmas.List.{get_or_past, length-set}
use Rattle.reader_copies.specs.{IsMask, bits_of_words}
use Rattle.reader_copies.proofs.Words.{length-bits}
use Rattle.safe_number.proofs.Numbers.{bit_in-past}
use Rattle.registers.proofs.CopyBytes.{bits-cut, register-made, zero-bits}
use Rattle.registers.proofs.Words.{bit-elsewhere}
use Rattle.registers.proofs.word_bytes.register_bytes.Goals as goal

pub loop-place-init : goal.loop-place-init
loop-place-init c = (refl, λ k below. absurd (omega arith), λ k above. zero-bits _ 27 k refl)

pub loop-place-preserved : goal.loop-place-preserved
loop-place-preserved c =
    let place : ℕ = c.loop-place.place in
    let kept = c.loop-place.kept in
    let inside : place < 27 = omega (arith, c.requires, c.div_ceil-place-end.ensures, c.loop-place-test.true) in (
      length-set kept place c.choose.result ∙ c.loop-place.invariant.0,
      bits-cut c.args.words.now kept c.args.bits place c.mask-mask.result c.choose.result c.loop-place.invariant.0 inside (subst (λ n. IsMask 0 n c.mask-mask.result) c.min.ensures c.mask-mask.ensures) c.choose.ensures c.loop-place.invariant.1,
      λ k above. bit-elsewhere kept place c.choose.result k (omega (arith, above)) ∙ c.loop-place.invariant.2 k (omega (arith, above)),
    )

pub returns : goal.returns
returns c =
    let bits = bits_of_words c.args.words.now c.args.bits in
    register-made bits c.bytes_of.result c.bytes_of.ensures.room c.bytes_of.ensures.bytes
    (λ k. elim (cases_lt k 1728) [
      | inl low ↦ c.bytes_of.ensures.bits k low ∙ elim (cases_lt k (64 * c.loop-place.place)) [
        | inl below ↦ c.loop-place.invariant.1 k below
        | inr above ↦ c.loop-place.invariant.2 k above ∙ sym (get_or_past bits k false (omega (arith, length-bits c.args.words.now c.args.bits, c.div_ceil-place-end.ensures, c.loop-place-test.false, above)))
      ]
      | inr high ↦ bit_in-past c.bytes_of.result k (omega (arith, c.bytes_of.ensures.room, high)) ∙ sym (get_or_past bits k false (omega (arith, length-bits c.args.words.now c.args.bits, c.requires, high)))
    ])
