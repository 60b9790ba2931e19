-- Bits side by side.
use Rattle.std.proofs.Common.{◌≡◌, ◌≢◌, ℕ, zero, suc, ◌+◌, ◌<◌, ◌≤◌, false, List, set, length, refl, sym, ◌∙◌, arith, ap, inl, inr}
use Rattle.std.proofs.lemmas.Bool.{cases_eq}
use Rattle.std.proofs.lemmas.List.{get_or-set_same, get_or-set_other, length-set}
use Rattle.safe_bit.specs.Cell.{Cell, new_cell}
use Rattle.reader_copies.specs.{cell_in, over}

pub length-over : (n : ℕ) (f : ℕ → Cell → Cell) (from : ℕ) (cells : List Cell) → length (over n f from cells) ≡ length cells
length-over zero f from cells = refl
length-over (suc n) f from cells = length-set (over n f from cells) (from + n) _ ∙ length-over n f from cells

-- the other bits stay
pub over-outside : (n : ℕ) (f : ℕ → Cell → Cell) (from i : ℕ) (cells : List Cell) → ((j : ℕ) → j < n → i ≢ from + j) → cell_in (over n f from cells) i ≡ cell_in cells i
over-outside zero f from i cells out = refl
over-outside (suc n) f from i cells out =
    get_or-set_other (over n f from cells) (from + n) i _ (new_cell false) (out n (omega arith)) ∙ over-outside n f from i cells (λ j h. out j (omega arith))

-- each of the n bits is changed
pub over-inside : (n : ℕ) (f : ℕ → Cell → Cell) (from i : ℕ) (cells : List Cell) → from ≤ i → i < from + n → from + n ≤ length cells → cell_in (over n f from cells) i ≡ f i (cell_in cells i)
over-inside zero f from i cells low high fits = absurd (omega arith)
over-inside (suc n) f from i cells low high fits = elim (cases_eq i (from + n)) [
  | inl e ↦ ap (cell_in (over (suc n) f from cells)) e
      ∙ get_or-set_same (over n f from cells) (from + n) (f (from + n) (cell_in (over n f from cells) (from + n))) (new_cell false) (omega (arith, length-over n f from cells))
      ∙ ap (f (from + n)) (over-outside n f from (from + n) cells (λ x below. omega arith))
      ∙ ap (λ x. f x (cell_in cells x)) (sym e)
  | inr e ↦ get_or-set_other (over n f from cells) (from + n) i _ (new_cell false) e ∙ over-inside n f from i cells low (omega arith) (omega arith)
]

-- it matters only what is made of these
pub over-same : (n : ℕ) (f g : ℕ → Cell → Cell) (from : ℕ) (cells : List Cell) → ((j : ℕ) (c : Cell) → j < n → f (from + j) c ≡ g (from + j) c) → over n f from cells ≡ over n g from cells
over-same zero f g from cells same = refl
over-same (suc n) f g from cells same =
    let before : over n f from cells ≡ over n g from cells = over-same n f g from cells (λ j c h. same j c (omega arith)) in
    ap (λ x. set x (from + n) (f (from + n) (cell_in x (from + n)))) before ∙ ap (λ c. set (over n g from cells) (from + n) c) (same n (cell_in (over n g from cells) (from + n)) (omega arith))
