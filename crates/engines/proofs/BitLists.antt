-- The text of bits files, line by line.
use Rattle.std.proofs.Common.{◌≡◌, ℕ, ◌+◌, ◌<◌, List, ◌++◌, length, drop, get_or, ap, sym, ◌∙◌, append_assoc}
use Rattle.safe_bit.specs.Cell.{Cell}
use Rattle.scenario.specs.{BitLine}
use Rattle.scenario.proofs.Places.{drop_in}
use Rattle.engines.specs.{cell_text_from, bit_line_text, bit_after}

-- the text of the lines from an index on
bits_text_step : (bit : Cell) (lines : List BitLine) (k : ℕ) (here : BitLine) → k < length lines → here ≡ get_or lines k here → cell_text_from bit (drop k lines) ≡ bit_line_text bit here ++ cell_text_from (bit_after bit here) (drop (k + 1) lines)
bits_text_step bit lines k here within is =
    ap (cell_text_from bit) (drop_in lines k here within is)

-- a text and that of the lines from an index on, one line later
pub bits_text_more : (reported : List ℕ) (bit : Cell) (lines : List BitLine) (k : ℕ) (here : BitLine) → k < length lines → here ≡ get_or lines k here → (reported ++ bit_line_text bit here) ++ cell_text_from (bit_after bit here) (drop (k + 1) lines) ≡ reported ++ cell_text_from bit (drop k lines)
bits_text_more reported bit lines k here within is = append_assoc reported _ _ ∙ ap (λ more. reported ++ more) (sym (bits_text_step bit lines k here within is))
