-- Words as a list of bits.
use Rattle.std.proofs.Common.{◌≡◌, ℕ, zero, suc, ◌<◌, false, List, [], ◌∷◌, get_or, length, refl, sym, ◌∙◌, arith, ap, inl, inr}
use Rattle.std.proofs.lemmas.Bool.{cases_eq}
use Rattle.std.proofs.lemmas.List.{get_or_append_left, get_or_push, length_push}
use Rattle.reader_copies.specs.{bit_of_words, bits_of_words}

pub length-bits : (a : List ℕ) (n : ℕ) → length (bits_of_words a n) ≡ n
length-bits a zero = refl
length-bits a (suc n) = length_push (bits_of_words a n) (bit_of_words a n) ∙ omega (arith, length-bits a n)

-- a bit of a list of bits
pub bit-found : (a : List ℕ) (n k : ℕ) → k < n → get_or (bits_of_words a n) k false ≡ bit_of_words a k
bit-found a zero k h = absurd (omega arith)
bit-found a (suc n) k h = elim (cases_eq k n) [
  | inl e ↦ get_or_push (bits_of_words a n) (bit_of_words a n) false k (length-bits a n ∙ sym e) ∙ ap (bit_of_words a) (sym e)
  | inr e ↦ get_or_append_left (bits_of_words a n) (bit_of_words a n ∷ []) false k (omega (arith, length-bits a n)) ∙ bit-found a n k (omega arith)
]
