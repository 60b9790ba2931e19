-- Bits as bytes, and writes of bytes as writes of their bits.
use Rattle.std.proofs.Common.{◌≡◌, ℕ, zero, suc, ◌+◌, ◌*◌, ◌/◌, ◌%◌, ◌<◌, ◌≤◌, ◌==◌, Bool, false, List, [], ◌∷◌, length, take, drop, get_or, Option, None, Some, refl, sym, ap, ◌∙◌, arith, inl, inr}
use Rattle.std.proofs.lemmas.Bool.{cases_lt}
use Rattle.std.proofs.lemmas.List.{get_or-drop, get_or-take, get_or_past, length-take-le, length-drop}
use Rattle.std.specs.Prelude.{unwrap_or}
use Rattle.reader_copies.specs.{Writing, next_write, write_after}
use Rattle.safe_number.specs.{AreBytes, IsBytesOf, NumberWrite, bit_in, bit_write, bits_in, next_of_write, number_of_bits, number_write_after, write_on}
use Rattle.safe_number.proofs.Bits.{number-bytes}
use Rattle.safe_number.proofs.Numbers.{get-bits, bit_in-past}
use Rattle.model.specs.{bit_written, bytes_of_bits, next_written, write_moved}

-- the write of the present bit is the same
same-bit : (value : List ℕ) (width bit : ℕ) (run : Option Writing) → bit < width →
    unwrap_or run (let w : Writing = record { value = bit_in value bit; made = 0; ended = false } in w) ≡ unwrap_or run (let w : Writing = record { value = get_or (bits_in value width) bit false; made = 0; ended = false } in w)
same-bit value width bit (Some run) h = refl
same-bit value width bit None h = ap (λ v. let w : Writing = record { value = v; made = 0; ended = false } in w) (sym (get-bits value width bit h))

pub write-bits : (value : List ℕ) (w : NumberWrite) → w.bit < w.width → bit_write value w ≡ bit_written (bits_in value w.width) w
write-bits value w h = same-bit value w.width w.bit w.run h

pub next-of-bytes : (value : List ℕ) (w : NumberWrite) → w.bit < w.width → next_of_write value w ≡ next_written (bits_in value w.width) w
next-of-bytes value w h = ap (λ run. (w.bit, next_write run)) (write-bits value w h)

pub moved-by-bytes : (n : ℕ) (value : List ℕ) (w : NumberWrite) → w.bit < w.width → number_write_after n value w ≡ write_moved n (bits_in value w.width) w
moved-by-bytes n value w h = ap (λ run. write_on w (write_after n run)) (write-bits value w h)

-- the first byte has the first 8 bits
first-byte : (bits : List Bool) (b : ℕ) (bytes : List ℕ) → IsBytesOf bits (b ∷ bytes) → 8 ≤ length bits → IsBytesOf (take 8 bits) (b ∷ [])
first-byte bits b bytes of long k = elim (cases_lt k 8) [
  | inl low ↦
      let here : k / 8 ≡ 0 = omega arith in
      ap (λ i. Rattle.std.specs.Int.bit_at (get_or (b ∷ []) i 0) (k % 8) == 1) here
      ∙ sym (ap (λ i. Rattle.std.specs.Int.bit_at (get_or (b ∷ bytes) i 0) (k % 8) == 1) here)
      ∙ of k ∙ sym (get_or-take 8 bits k false low)
  | inr high ↦ bit_in-past (b ∷ []) k (omega arith) ∙ sym (get_or_past (take 8 bits) k false (omega (arith, length-take-le 8 bits long)))
]

-- the other bytes have the others
other-bytes : (bits : List Bool) (b : ℕ) (bytes : List ℕ) → IsBytesOf bits (b ∷ bytes) → IsBytesOf (drop 8 bits) bytes
other-bytes bits b bytes of k =
    let next : (8 + k) / 8 ≡ suc (k / 8) = omega arith in
    let same : (8 + k) % 8 ≡ k % 8 = omega arith in
    sym (ap (λ i. Rattle.std.specs.Int.bit_at (get_or (b ∷ bytes) i 0) ((8 + k) % 8) == 1) next ∙ ap (λ i. Rattle.std.specs.Int.bit_at (get_or bytes (k / 8) 0) i == 1) same)
    ∙ of (8 + k) ∙ sym (get_or-drop 8 bits k false)

-- bytes with these bits, and as many as they need, are those that the bits make
pub bytes-of-bits : (k : ℕ) (bits : List Bool) (bytes : List ℕ) → length bits ≡ 8 * k → length bytes ≡ k → AreBytes bytes → IsBytesOf bits bytes → bytes ≡ bytes_of_bits k bits
bytes-of-bits zero bits [] long many are of = refl
bytes-of-bits zero bits (b ∷ bytes) long many are of = absurd (omega arith)
bytes-of-bits (suc k) bits [] long many are of = absurd (omega arith)
bytes-of-bits (suc k) bits (b ∷ bytes) long many are of =
    let first : b + 256 * 0 ≡ number_of_bits (take 8 bits) = number-bytes (take 8 bits) (b ∷ []) (one b (are 0)) (first-byte bits b bytes of (omega arith)) in
    let is : b ≡ number_of_bits (take 8 bits) = omega arith in
    let rest : length (drop 8 bits) ≡ 8 * k = omega (arith, length-drop 8 bits) in
    ap (λ x. x ∷ bytes) is ∙ ap (λ xs. number_of_bits (take 8 bits) ∷ xs) (bytes-of-bits k (drop 8 bits) bytes rest (omega arith) (λ j. are (suc j)) (other-bytes bits b bytes of))
  where
    one : (b : ℕ) → b < 256 → AreBytes (b ∷ [])
    one b h zero = h
    one b h (suc j) = omega (arith, get_or_past {X = ℕ} [] j 0 (omega arith))
