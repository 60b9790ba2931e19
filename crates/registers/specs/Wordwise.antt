-- Many accesses at once.
use Rattle.std.specs.Prelude.{◌≡◌, ℕ, zero, suc, ◌+◌, ◌≤◌, ◌%◌, Bool, false, List, [], ◌∷◌, ◌++◌}
use Rattle.registers.specs.Cursors.{CursorState}

-- the next n bits can be accessed at once: they are in one word, and none has begun
pub record AreAhead (c : CursorState) (n : ℕ) : Type 0 where
  pub begun : c.begun ≡ false
  pub copy : c.copy ≡ 0
  pub some : 1 ≤ n
  pub inside : c.bit + n ≤ c.width
  pub word : c.bit % 64 + n ≤ 64

-- the bits and n more
abbrev pub more_bits : ℕ → (ℕ → Bool) → List Bool → List Bool
more_bits zero f bits = bits
more_bits (suc n) f bits = more_bits n f bits ++ f n ∷ []
