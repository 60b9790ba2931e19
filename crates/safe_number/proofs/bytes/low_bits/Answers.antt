use Rattle.std.proofs.Common.{◌≡◌, ℕ, ◌-◌, ◌*◌, ◌%◌, ◌^◌, ◌<◌, ap, ◌∙◌, min, bit_and, arith}
use Rattle.std.specs.Int.{bit_at}
use Rattle.std.proofs.lemmas.Nat.{one_shl}
use Rattle.std.proofs.lemmas.Nat.Bits.{bit_at_and, bit_at_ones, bit_at_ones_above, bit_at-lt}
use Rattle.safe_number.proofs.bytes.low_bits.Goals as goal

-- the bits of a byte under a mask
masked : (byte k i : ℕ) → k < 8 → bit_at (bit_and byte (1 * 2 ^ k % 2 ^ 8 - 1)) i ≡ min (bit_at byte i) (bit_at (2 ^ k - 1) i)
masked byte k i h = ap (λ x. bit_at (bit_and byte (x - 1)) i) (one_shl k 8 h) ∙ bit_at_and byte (2 ^ k - 1) i

pub returns-clause-below : goal.returns-clause-below
returns-clause-below c = λ i below. masked c.args.byte c.args.k i c.requires ∙ (omega (arith, bit_at_ones c.args.k i below, bit_at-lt c.args.byte i))

pub returns-clause-others : goal.returns-clause-others
returns-clause-others c = λ i above. masked c.args.byte c.args.k i c.requires ∙ (omega (arith, bit_at_ones_above c.args.k i above))
