use Rattle.std.proofs.Common.{w8, ap, ◌∙◌, sym, ◌==◌, arith}
use Rattle.std.proofs.lemmas.Nat.Bits.{bit_at_set_same, bit_at_set_other}
use Rattle.safe_number.proofs.bytes.with_next_bit.Goals as goal

pub returns-then-value-clause-below : goal.returns-then-value-clause-below
returns-then-value-clause-below c = λ i less. bit_at_set_other w8 _ _ c.requires i (λ e. omega arith) ∙ c.low_bits-below.ensures.below i less

pub returns-then-value-clause-same : goal.returns-then-value-clause-same
returns-then-value-clause-same c = ap (λ b. b == 1) (bit_at_set_same w8 _ _ c.requires) ∙ sym c.if-value.true

pub returns-then-value-clause-above : goal.returns-then-value-clause-above
returns-then-value-clause-above c = λ i inside more. bit_at_set_other w8 _ _ c.requires i (λ e. omega arith) ∙ c.low_bits-below.ensures.others i (omega arith)
