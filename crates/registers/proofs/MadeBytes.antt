-- The bytes of a register, by the bits of which they are made.
use Rattle.std.proofs.Common.{◌≡◌, ℕ, zero, suc, ◌+◌, ◌-◌, ◌*◌, ◌/◌, ◌%◌, ◌≤◌, ◌==◌, Bool, false, List, [], ◌∷◌, length, take, drop, get_or, refl, sym, ap, ◌∙◌, arith, inl, inr}
use Rattle.std.specs.Int.{bit_at}
use Rattle.std.proofs.Math.Pow.{pow_mono}
use Rattle.std.proofs.lemmas.Bool.{cases_lt}
use Rattle.std.proofs.lemmas.List.{get_or-drop, get_or-take, get_or_past, length-drop, length-take}
use Rattle.safe_number.specs.{AreBytes, IsBytesOf, number_of_bits}
use Rattle.safe_number.proofs.Bits.{bit_at-number, number-fits}
use Rattle.safe_number.proofs.Numbers.{bit_in-past}
use Rattle.model.specs.{bytes_of_bits}
use Rattle.registers.specs.CopyBytes.{register_bytes}

made-length : (k : ℕ) (bits : List Bool) → length (bytes_of_bits k bits) ≡ k
made-length zero bits = refl
made-length (suc k) bits = omega (arith, made-length k (drop 8 bits))

made-small : (k : ℕ) (bits : List Bool) → AreBytes (bytes_of_bits k bits)
made-small zero bits j = omega (arith, get_or_past {X = ℕ} [] j 0 (omega arith))
made-small (suc k) bits zero = omega (arith, number-fits (take 8 bits), pow_mono {i = length (take 8 bits)} {j = 8} (omega (arith, length-take 8 bits)))
made-small (suc k) bits (suc j) = made-small k (drop 8 bits) j

made-bits : (k : ℕ) (bits : List Bool) → length bits ≤ 8 * k → IsBytesOf bits (bytes_of_bits k bits)
made-bits zero bits few j = bit_in-past [] j (omega arith) ∙ sym (get_or_past bits j false (omega arith))
made-bits (suc k) bits few j = elim (cases_lt j 8) [
  | inl low ↦
      let first : j / 8 ≡ 0 = omega arith in
      let here : j % 8 ≡ j = omega arith in
      (λ i. bit_at (get_or (bytes_of_bits (suc k) bits) (first i) 0) (here i) == 1)
      ∙ bit_at-number (take 8 bits) j ∙ get_or-take 8 bits j false low
  | inr high ↦
      let next : j / 8 ≡ suc ((j - 8) / 8) = omega arith in
      let here : j % 8 ≡ (j - 8) % 8 = omega arith in
      let back : 8 + (j - 8) ≡ j = omega arith in
      (λ i. bit_at (get_or (bytes_of_bits (suc k) bits) (next i) 0) (here i) == 1)
      ∙ made-bits k (drop 8 bits) (omega (arith, length-drop 8 bits)) (j - 8)
      ∙ get_or-drop 8 bits (j - 8) false ∙ ap (λ m. get_or bits m false) back
]

made-take : (n k : ℕ) (bits : List Bool) → n ≤ k → take n (bytes_of_bits k bits) ≡ bytes_of_bits n bits
made-take zero zero bits h = refl
made-take zero (suc k) bits h = refl
made-take (suc n) zero bits h = absurd (omega arith)
made-take (suc n) (suc k) bits h = ap (λ xs. number_of_bits (take 8 bits) ∷ xs) (made-take n k (drop 8 bits) (omega arith))

pub register-length : (bits : List Bool) → length (register_bytes bits) ≡ 216
unfolding register_bytes
register-length bits = made-length 216 bits

pub register-small : (bits : List Bool) → AreBytes (register_bytes bits)
unfolding register_bytes
register-small bits = made-small 216 bits

pub register-bits : (bits : List Bool) → length bits ≤ 1728 → IsBytesOf bits (register_bytes bits)
unfolding register_bytes
register-bits bits few = made-bits 216 bits few

-- the first bytes are those that the bits make
pub register-first : (n : ℕ) (bits : List Bool) → n ≤ 216 → take n (register_bytes bits) ≡ bytes_of_bits n bits
unfolding register_bytes
register-first n bits inside = made-take n 216 bits inside
