-- Looks in bytes.
use Rattle.std.proofs.Common.{◌≡◌, ℕ, ◌*◌, ◌<◌, ◌≤◌, ◌/◌, ◌%◌, ◌==◌, Bool, true, false, cond, List, [], set, get_or, length, replicate, refl, sym, ap, ◌∙◌, arith, inl, inr}
use Rattle.std.proofs.lemmas.List.{get_or-set_same, get_or-set_other, length-replicate, get_or-replicate, ext_get_or, get_or_default}
use Rattle.std.proofs.lemmas.List.FromFn.{length-map-range_with_len, get_or-map-range_with_len}
use Rattle.std.proofs.lemmas.Bool.{cases_eq}
use Rattle.model.proofs.reader_copies.Flags.{made-set}
use Rattle.safe_monitor.specs.{MonitoredBit, four_bits, monitored_from, monitored_in, monitored_after, monitored_bits_of}

pub length-monitored_bits : (bytes : List ℕ) (n : ℕ) → length (monitored_bits_of bytes n) ≡ n
length-monitored_bits bytes n = length-map-range_with_len (monitored_in bytes) 0 n

pub get-monitored_bits : (bytes : List ℕ) (n k : ℕ) (d : MonitoredBit) → k < n → get_or (monitored_bits_of bytes n) k d ≡ monitored_in bytes k
get-monitored_bits bytes n k d h = get_or-map-range_with_len (monitored_in bytes) 0 n k k d h (omega arith)

zero_bits : (k : ℕ) → four_bits 0 k ≡ 0
zero_bits k = by (k % 2 == 0)
  where
    by : (b : Bool) → cond b (0 % 16) (0 / 16) ≡ 0
    by true = refl
    by false = refl

-- bytes of zeros are the looks of bits that are initially 0
pub monitored_bits-zeros : (bytes : List ℕ) (m n : ℕ) → bytes ≡ replicate m 0 → n ≤ 2 * m → monitored_bits_of bytes n ≡ replicate n (monitored_after false [])
monitored_bits-zeros bytes m n is h = ap (λ b. monitored_bits_of b n) is ∙ ext_get_or (monitored_after false []) (monitored_bits_of (replicate m 0) n) (replicate n (monitored_after false [])) (length-monitored_bits (replicate m 0) n ∙ sym (length-replicate n (monitored_after false [])))
    (λ k below. let inside : k < n = omega (arith, below, length-monitored_bits (replicate m 0) n) in
    get-monitored_bits (replicate m 0) n k (monitored_after false []) inside
    ∙ ap (λ b. monitored_from (four_bits b k)) (get_or-replicate m (k / 2) 0 0 (omega arith))
    ∙ ap monitored_from (zero_bits k)
    ∙ sym (get_or-replicate n k (monitored_after false []) (monitored_after false []) inside))

-- the look that was read
pub monitored_read : (bytes : List ℕ) (k byte : ℕ) → k / 2 < length bytes → byte ≡ get_or bytes (k / 2) byte → monitored_from (four_bits byte k) ≡ monitored_in bytes k
monitored_read bytes k byte there read = ap (λ b. monitored_from (four_bits b k)) (read ∙ get_or_default bytes (k / 2) byte 0 there)

-- four bits of one byte change, so one look changes
pub monitored_bits-set : (bytes : List ℕ) (n k before byte : ℕ) (l : MonitoredBit) → k < n → n ≤ 2 * length bytes → before ≡ get_or bytes (k / 2) before → monitored_from (four_bits byte k) ≡ l →
    ((j : ℕ) → (j % 2 ≡ k % 2 → ⊥) → four_bits byte j ≡ four_bits before j) → monitored_bits_of (set bytes (k / 2) byte) n ≡ set (monitored_bits_of bytes n) k l
monitored_bits-set bytes n k before byte l h fits read same others =
    let there : k / 2 < length bytes = omega arith in
    made-set (monitored_in bytes) (monitored_in (set bytes (k / 2) byte)) n k l h
    (ap (λ b. monitored_from (four_bits b k)) (get_or-set_same bytes (k / 2) byte 0 there) ∙ same)
    (λ j below apart. elim (cases_eq (j / 2) (k / 2)) [
      | inl e ↦ ap (λ i. monitored_from (four_bits (get_or (set bytes (k / 2) byte) i 0) j)) e
          ∙ ap (λ b. monitored_from (four_bits b j)) (get_or-set_same bytes (k / 2) byte 0 there)
          ∙ ap monitored_from (others j (λ odd. apart (omega (arith, e, odd))))
          ∙ ap (λ b. monitored_from (four_bits b j)) (read ∙ get_or_default bytes (k / 2) before 0 there)
          ∙ ap (λ i. monitored_from (four_bits (get_or bytes i 0) j)) (sym e)
      | inr e ↦ ap (λ b. monitored_from (four_bits b j)) (get_or-set_other bytes (k / 2) (j / 2) byte 0 e)
    ])
