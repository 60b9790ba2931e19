-- The bits of a register as they are read off its bytes.
use Rattle.std.proofs.Common.{◌≡◌, ℕ, zero, suc, ◌-◌, ◌*◌, ◌/◌, ◌%◌, ◌^◌, ◌<◌, ◌≤◌, ◌==◌, Bool, false, List, [], ◌∷◌, ◌++◌, length, take, replicate, get_or, refl, sym, ap, subst, ◌∙◌, arith, inl, inr}
use Rattle.std.specs.Int.{bit_at}
use Rattle.std.proofs.lemmas.Bool.{cases_lt}
use Rattle.std.proofs.lemmas.List.{ext_get_or, get_or-take, get_or_past, length-append, length-replicate, length-take-le}
use Rattle.model.specs.{bytes_of_bits}
use Rattle.model.specs.safe_number.{AreBytes, bit_in, bits_in, little_endian, number_of_bits}
use Rattle.model.proofs.Bytes.{bytes-of-bits}
use Rattle.model.proofs.safe_number.Bits.{bits-bytes}
use Rattle.model.proofs.safe_number.Numbers.{bit_in-past, bit_in-take, bits-reported, get-bits, length_bits, range_same}
use Rattle.calls.specs.world.process.registers.{register_bytes}
use Rattle.calls.proofs.world_proofs.process_proofs.registers_proofs.CopyBytes.{register-made}
use Rattle.calls.proofs.world_proofs.process_proofs.registers_proofs.MadeBytes.{register-bits}
use Rattle.calls.proofs.world_proofs.process_proofs.registers_proofs.Numbers.{number-low}

-- the bits with which bytes begin
pub bits-begun : (bytes : List ℕ) (bits : List Bool) (n : ℕ) → length bits ≡ n → ((k : ℕ) → k < length bits → bit_in bytes k ≡ get_or bits k false) → bits_in bytes n ≡ bits
bits-begun bytes bits n wide begin =
    ext_get_or false (bits_in bytes n) bits (length_bits bytes n ∙ sym wide)
    (λ k below. get-bits bytes n k (omega (arith, length_bits bytes n)) ∙ begin k (omega (arith, length_bits bytes n, wide)))

-- so a register's bits are read off its bytes
pub register-back : (bits : List Bool) (n : ℕ) → length bits ≡ n → n ≤ 1728 → bits_in (register_bytes bits) n ≡ bits
register-back bits n wide most = bits-begun (register_bytes bits) bits n wide (λ k below. register-bits bits (omega arith) k)

first-bytes : (bytes : List ℕ) (n : ℕ) → n ≤ length bytes → AreBytes bytes → AreBytes (take n bytes)
first-bytes bytes n room are k = elim (cases_lt k n) [
  | inl inside ↦ subst (λ b. b < 256) (sym (get_or-take n bytes k 0 inside)) (are k)
  | inr past ↦ omega (arith, get_or_past (take n bytes) k 0 (omega (arith, length-take-le n bytes room)))
]

-- the first bytes are those that their bits make
pub bytes-back : (bytes : List ℕ) (n : ℕ) → n ≤ length bytes → AreBytes bytes → take n bytes ≡ bytes_of_bits n (bits_in bytes (8 * n))
bytes-back bytes n room are =
    bytes-of-bits n (bits_in bytes (8 * n)) (take n bytes) (length_bits bytes (8 * n)) (length-take-le n bytes room) (first-bytes bytes n room are)
    (bits-reported bytes (8 * n) n (omega arith) room (λ k above below. absurd (omega arith)))

-- the number of the first bits of bytes
pub number-read : (bytes : List ℕ) (w : ℕ) → w ≤ 64 → 8 ≤ length bytes → AreBytes bytes → little_endian (take 8 bytes) % 2 ^ w ≡ number_of_bits (bits_in bytes w)
number-read bytes w narrow room are =
    sym (number-low w (little_endian (take 8 bytes)))
    ∙ ap number_of_bits (sym (bits-bytes (take 8 bytes) w (first-bytes bytes 8 room are)) ∙ range_same (bit_in bytes) (bit_in (take 8 bytes)) w false (λ k below. bit_in-take bytes 8 k (omega arith)))

-- Bytes with zeros after them.

zeros : (n i : ℕ) → get_or (replicate n (let none : ℕ = 0 in none)) i 0 ≡ 0
zeros zero i = refl
zeros (suc n) zero = refl
zeros (suc n) (suc i) = zeros n i

behind : (bytes : List ℕ) (n i : ℕ) → get_or (bytes ++ replicate n 0) i 0 ≡ get_or bytes i 0
behind [] n i = zeros n i
behind (b ∷ bytes) n zero = refl
behind (b ∷ bytes) n (suc i) = behind bytes n i

-- they are those of a register with the bits of the bytes
pub padded-register : (bytes : List ℕ) → length bytes ≤ 216 → AreBytes bytes → bytes ++ replicate (216 - length bytes) 0 ≡ register_bytes (bits_in bytes (8 * length bytes))
padded-register bytes room are =
    register-made bits (bytes ++ replicate (216 - length bytes) 0)
    (omega (arith, length-append bytes (replicate (216 - length bytes) (let none : ℕ = 0 in none)), length-replicate {A = ℕ} (216 - length bytes) 0))
    (λ k. subst (λ b. b < 256) (sym (behind bytes (216 - length bytes) k)) (are k))
    (λ k. ap (λ b. bit_at b (k % 8) == 1) (behind bytes (216 - length bytes) (k / 8)) ∙ elim (cases_lt k (8 * length bytes)) [
      | inl inside ↦ sym (get-bits bytes (8 * length bytes) k inside)
      | inr past ↦ bit_in-past bytes k (omega arith) ∙ sym (get_or_past bits k false (omega (arith, length_bits bytes (8 * length bytes))))
    ])
  where
    bits : List Bool
    bits = bits_in bytes (8 * length bytes)
