-- The effect of an access on the rows of registers.
use Rattle.std.proofs.Common.{◌≢◌, ℕ, ◌+◌, ◌*◌, ◌<◌, arith, inl, inr}
use Rattle.std.proofs.Math.Nat.{mul-le-mul_right}
use Rattle.std.proofs.lemmas.Bool.{cases_lt}

-- lanes of two registers differ
apart : (a b n k j : ℕ) → a ≢ b → k < n → j < n → a * n + k ≢ b * n + j
apart a b n k j differ low low' = elim (cases_lt a b) [
  | inl less ↦ omega (arith, mul-le-mul_right {m = a + 1} {n = b} n (omega arith))
  | inr more ↦ omega (arith, mul-le-mul_right {m = b + 1} {n = a} n (omega arith))
]
