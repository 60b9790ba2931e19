-- Numbers that are read bit by bit.
use Rattle.std.specs.Prelude.{◌≡◌, ℕ, ◌^◌, ◌<◌, Bool, false, List, [], ◌∷◌, ◌++◌, length, slice_index_or}
use Rattle.std.proofs.Common.{sym, ap, ◌∙◌, subst, arith, inl, inr}
use Rattle.std.proofs.Math.Seq.{get_or-append_seam}
use Rattle.std.proofs.lemmas.Bool.{cases_lt}
use Rattle.std.proofs.lemmas.List.{ext_get_or, get_or_append_left, length_push}
use Rattle.model.specs.safe_number.{number_of_bits, bits_of_number}
use Rattle.model.proofs.safe_number.Bits.{number-bits, number-fits, length-bits_of_number}

-- the bits are a prefix of the ticket's bits
abbrev pub AreBitsOf : (ticket bits : List Bool) → Type 0
AreBitsOf ticket bits = (k : ℕ) → k < length bits → slice_index_or bits k false ≡ slice_index_or ticket k false

-- one more bit of the ticket
pub one_more_bit : (ticket bits : List Bool) (v : Bool) → AreBitsOf ticket bits → v ≡ slice_index_or ticket (length bits) false → AreBitsOf ticket (bits ++ v ∷ [])
one_more_bit ticket bits v so_far last k below = elim (cases_lt k (length bits)) [
  | inl before ↦ get_or_append_left bits (v ∷ []) false k before ∙ so_far k before
  | inr after ↦
      let here : k ≡ length bits = omega (arith, length_push bits v) in
      ap (λ i. slice_index_or (bits ++ v ∷ []) i false) here ∙ get_or-append_seam bits v [] false ∙ last ∙ ap (λ i. slice_index_or ticket i false) (sym here)
]

-- all bits of a ticket make the ticket
pub number_read : (w ticket : ℕ) (bits : List Bool) → ticket < 2 ^ w → length bits ≡ w → AreBitsOf (bits_of_number w ticket) bits → number_of_bits bits ≡ ticket
number_read w ticket bits fits whole are =
    ap number_of_bits (ext_get_or false bits (bits_of_number w ticket) (whole ∙ sym (length-bits_of_number w ticket)) are) ∙ number-bits w ticket fits

-- a number of w bits is below 2 ^ w
pub number_small : (w : ℕ) (bits : List Bool) → length bits ≡ w → number_of_bits bits < 2 ^ w
number_small w bits whole = subst (λ n. number_of_bits bits < 2 ^ n) whole (number-fits bits)
