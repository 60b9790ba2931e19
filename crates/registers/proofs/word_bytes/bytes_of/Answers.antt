use Rattle.std.proofs.Common.{◌/◌, ◌<◌, ℕ, subst, sym, arith, inl, inr}
use Rattle.std.proofs.lemmas.Bool.{cases_lt}
use Rattle.std.proofs.lemmas.List.{get_or_past}
use Rattle.registers.proofs.WordBytes.{byte-has}
use Rattle.registers.proofs.word_bytes.bytes_of.Goals as goal

pub returns-clause-bytes : goal.returns-clause-bytes
returns-clause-bytes c = λ k. elim (cases_lt k 216) [
  | inl low ↦ subst (λ (b : ℕ). b < 256) (sym (c.loop-place.invariant.1 k (omega (arith, low)))) (omega arith)
  | inr high ↦ subst (λ (b : ℕ). b < 256) (sym (get_or_past c.loop-place.bytes k 0 (omega (arith, c.loop-place.invariant.0, high)))) (omega arith)
]

pub returns-clause-bits : goal.returns-clause-bits
returns-clause-bits c = λ k below. byte-has c.args.words.now c.loop-place.bytes k (c.loop-place.invariant.1 (k / 8) (omega arith))
