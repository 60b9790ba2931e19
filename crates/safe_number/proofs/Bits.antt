-- Numbers against their bits.
use Rattle.std.proofs.Common.{◌≡◌, ℕ, zero, suc, ◌+◌, ◌-◌, ◌*◌, ◌/◌, ◌%◌, ◌^◌, ◌<◌, ◌==◌, Bool, true, false, cond, List, [], ◌∷◌, get_or, length, refl, sym, ap, ◌∙◌, arith, inl, inr}
use Rattle.std.specs.Int.{bit_at}
use Rattle.std.proofs.Math.Nat.{pow-suc}
use Rattle.std.proofs.lemmas.Bool.{cases_eq, cases_lt, eq-eqb, ne_eqb, eqb-true, eqb-false}
use Rattle.std.proofs.lemmas.List.{ext_get_or}
use Rattle.std.proofs.lemmas.Nat.Bits.{bit_at-zero, bit_at-lt, bit_at_lowest, bit_at-suc, bit_at_cat_low, bit_at_cat_high, same_from_bits}
use Rattle.safe_number.specs.{little_endian, AreBytes, bit_in, bits_in, IsBytesOf, number_of_bits, bits_of_number}
use Rattle.safe_number.proofs.Numbers.{length_bits, get-bits}

-- bit k of bytes is bit k of their number
pub bit_in-number : (bytes : List ℕ) (k : ℕ) → AreBytes bytes → bit_in bytes k ≡ (bit_at (little_endian bytes) k == 1)
bit_in-number [] k are = ap (λ b. b == 1) (bit_at-zero (k % 8)) ∙ sym (ap (λ b. b == 1) (bit_at-zero k))
bit_in-number (b ∷ bytes) k are = elim (cases_lt k 8) [
  | inl low ↦
      let first : k / 8 ≡ 0 = omega arith in
      let here : k % 8 ≡ k = omega arith in
      let cat : b + 256 * little_endian bytes ≡ little_endian bytes * 2 ^ 8 + b = omega arith in
      ap (λ i. bit_at (get_or (b ∷ bytes) i 0) (k % 8) == 1) first
      ∙ ap (λ i. bit_at b i == 1) here
      ∙ sym (ap (λ n. bit_at n k == 1) cat ∙ ap (λ x. x == 1) (bit_at_cat_low (little_endian bytes) 8 b k low))
  | inr high ↦
      let next : k / 8 ≡ suc ((k - 8) / 8) = omega arith in
      let here : k % 8 ≡ (k - 8) % 8 = omega arith in
      let cat : b + 256 * little_endian bytes ≡ little_endian bytes * 2 ^ 8 + b = omega arith in
      ap (λ i. bit_at (get_or (b ∷ bytes) i 0) (k % 8) == 1) next
      ∙ ap (λ i. bit_at (get_or bytes ((k - 8) / 8) 0) i == 1) here
      ∙ bit_in-number bytes (k - 8) (λ j. are (suc j))
      ∙ sym (ap (λ n. bit_at n k == 1) cat ∙ ap (λ x. x == 1) (bit_at_cat_high (little_endian bytes) 8 b k (are 0) high))
]

-- the number of bits has them
lowest : (b : Bool) (n : ℕ) → ((cond b 1 0 + 2 * n) % 2 == 1) ≡ b
lowest true n = let odd : (1 + 2 * n) % 2 ≡ 1 = omega arith in ap (λ x. x == 1) odd
lowest false n = let even : (0 + 2 * n) % 2 ≡ 0 = omega arith in ap (λ x. x == 1) even

others : (b : Bool) (n : ℕ) → (cond b 1 0 + 2 * n) / 2 ≡ n
others true n = omega arith
others false n = omega arith

pub bit_at-number : (bits : List Bool) (k : ℕ) → (bit_at (number_of_bits bits) k == 1) ≡ get_or bits k false
bit_at-number [] k = ap (λ b. b == 1) (bit_at-zero k)
bit_at-number (b ∷ bits) zero = ap (λ x. x == 1) (bit_at_lowest (number_of_bits (b ∷ bits))) ∙ lowest b (number_of_bits bits)
bit_at-number (b ∷ bits) (suc k) =
    ap (λ x. x == 1) (bit_at-suc (number_of_bits (b ∷ bits)) k ∙ ap (λ n. bit_at n k) (others b (number_of_bits bits))) ∙ bit_at-number bits k

same_bit : (x y : ℕ) → x < 2 → y < 2 → (x == 1) ≡ (y == 1) → x ≡ y
same_bit x y hx hy e = elim (cases_eq x 1) [
  | inl one ↦ one ∙ sym (eqb-true y 1 (sym e ∙ eq-eqb x 1 one))
  | inr other ↦ let not_one : y ≡ 1 → ⊥ = eqb-false y 1 (sym e ∙ ne_eqb x 1 other) in omega arith
]

-- so the number of bytes is that of their bits
pub number-bytes : (bits : List Bool) (bytes : List ℕ) → AreBytes bytes → IsBytesOf bits bytes → little_endian bytes ≡ number_of_bits bits
number-bytes bits bytes are of =
    same_from_bits (little_endian bytes) (number_of_bits bits)
    (λ k. same_bit (bit_at (little_endian bytes) k) (bit_at (number_of_bits bits) k) (bit_at-lt (little_endian bytes) k) (bit_at-lt (number_of_bits bits) k)
    (sym (bit_in-number bytes k are) ∙ of k ∙ sym (bit_at-number bits k)))

-- as many bytes with the same number are the same
same_bytes : (a b : List ℕ) → AreBytes a → AreBytes b → length a ≡ length b → little_endian a ≡ little_endian b → a ≡ b
same_bytes [] [] ha hb len e = refl
same_bytes [] (y ∷ b) ha hb len e = absurd (omega arith)
same_bytes (x ∷ a) [] ha hb len e = absurd (omega arith)
same_bytes (x ∷ a) (y ∷ b) ha hb len e =
    let low_x : x < 256 = ha 0 in
    let low_y : y < 256 = hb 0 in
    let first : x ≡ y = omega arith in
    let rest : little_endian a ≡ little_endian b = omega arith in
    ap (λ z. z ∷ a) first ∙ ap (λ zs. y ∷ zs) (same_bytes a b (λ k. ha (suc k)) (λ k. hb (suc k)) (omega arith) rest)

pub bytes-same : (bits : List Bool) (a b : List ℕ) → AreBytes a → AreBytes b → length a ≡ length b → IsBytesOf bits a → IsBytesOf bits b → a ≡ b
bytes-same bits a b ha hb len of_a of_b = same_bytes a b ha hb len (number-bytes bits a ha of_a ∙ sym (number-bytes bits b hb of_b))

-- the lowest bits of a number
pub length-bits_of_number : (w n : ℕ) → length (bits_of_number w n) ≡ w
length-bits_of_number zero n = refl
length-bits_of_number (suc w) n = omega (arith, length-bits_of_number w (n / 2))

get-bits_of_number : (w n k : ℕ) → k < w → get_or (bits_of_number w n) k false ≡ (bit_at n k == 1)
get-bits_of_number zero n k h = absurd (omega arith)
get-bits_of_number (suc w) n zero h = sym (ap (λ x. x == 1) (bit_at_lowest n))
get-bits_of_number (suc w) n (suc k) h = get-bits_of_number w (n / 2) k (omega arith) ∙ sym (ap (λ x. x == 1) (bit_at-suc n k))

pub bits-bytes : (bytes : List ℕ) (w : ℕ) → AreBytes bytes → bits_in bytes w ≡ bits_of_number w (little_endian bytes)
bits-bytes bytes w are =
    ext_get_or false (bits_in bytes w) (bits_of_number w (little_endian bytes)) (length_bits bytes w ∙ sym (length-bits_of_number w (little_endian bytes)))
    (λ k below. let inside : k < w = omega (arith, length_bits bytes w) in
    get-bits bytes w k inside ∙ bit_in-number bytes k are ∙ sym (get-bits_of_number w (little_endian bytes) k inside))

-- a number of w bits is that of its w lowest bits
halves : (n : ℕ) → cond (n % 2 == 1) 1 0 + 2 * (n / 2) ≡ n
halves n = elim (cases_eq (n % 2) 1) [
  | inl one ↦ ap (λ b. cond b 1 0 + 2 * (n / 2)) (eq-eqb (n % 2) 1 one) ∙ (omega arith)
  | inr other ↦ ap (λ b. cond b 1 0 + 2 * (n / 2)) (ne_eqb (n % 2) 1 other) ∙ (omega arith)
]

pub number-bits : (w n : ℕ) → n < 2 ^ w → number_of_bits (bits_of_number w n) ≡ n
number-bits zero n h = sym (omega arith)
number-bits (suc w) n h =
    ap (λ x. cond (n % 2 == 1) 1 0 + 2 * x) (number-bits w (n / 2) (omega (arith, pow-suc 2 w))) ∙ halves n

-- w bits are those of their number
pub bits-number : (bits : List Bool) → bits_of_number (length bits) (number_of_bits bits) ≡ bits
bits-number [] = refl
bits-number (b ∷ bits) =
    ap (λ x. x ∷ bits_of_number (length bits) (number_of_bits (b ∷ bits) / 2)) (lowest b (number_of_bits bits))
    ∙ ap (λ n. b ∷ bits_of_number (length bits) n) (others b (number_of_bits bits)) ∙ ap (λ bs. b ∷ bs) (bits-number bits)

-- the number of w bits is below 2 ^ w
below_two : (b : Bool) → cond b 1 0 < 2
below_two true = omega arith
below_two false = omega arith

pub number-fits : (bits : List Bool) → number_of_bits bits < 2 ^ length bits
number-fits [] = omega arith
number-fits (b ∷ bits) = omega (arith, number-fits bits, pow-suc 2 (length bits), below_two b)
