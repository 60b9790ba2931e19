-- The initial values of bits.
use Rattle.std.proofs.Common.{◌≡◌, ℕ, false, slice_index_or, arith}
use Rattle.model.specs.{Field, opening_bits}
use Rattle.model.specs.declared.access.Field.TheVariants.{Image0}
use Rattle.plain_store.specs.{Setup}

-- each register except the first image of process 0 is initially 0
pub opens_low : (s : Setup) (owner : ℕ) (field : Field) (k : ℕ) → (owner ≡ 0 → field ≡ Image0 → ⊥) → slice_index_or (opening_bits s owner field) k false ≡ false
opens_low s owner field k h = grind arith
