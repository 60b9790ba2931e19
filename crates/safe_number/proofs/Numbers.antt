-- Numbers as bytes and bits.
use Rattle.std.proofs.Common.{◌≡◌, ℕ, zero, suc, ◌+◌, ◌*◌, ◌/◌, ◌%◌, ◌<◌, ◌≤◌, ◌==◌, Bool, true, false, not, cond, List, [], ◌∷◌, ◌++◌, map, set, get_or, length, take, replicate, ap, refl, sym, ◌∙◌, arith, inl, inr}
use Rattle.std.specs.List.{range_with_len}
use Rattle.std.specs.Int.{bit_at}
use Rattle.std.proofs.lemmas.Bool.{cases_eq, cases_lt}
use Rattle.std.proofs.lemmas.List.{get_or-set_same, get_or-set_other, get_or_default, get_or-take, get_or_past, length-take-le}
use Rattle.std.proofs.lemmas.List.FromFn.{length-map-range_with_len, get_or-map-range_with_len, map-range_with_len_more, fill_by_all}
use Rattle.std.proofs.lemmas.Nat.Bits.{bit_at-zero}
use Rattle.safe_number.specs.{NumberRead, bit_in, bits_in, little_endian, number_read_after}

-- a read that has come so far
abbrev read-with : NumberRead → List Bool → Bool → NumberRead
read-with r bits begun = record { width = r.width; bits = bits; begun = begun; room = r.room }

-- zeros after a number change nothing
little_endian-zeros : (n : ℕ) → little_endian (replicate n 0) ≡ 0
little_endian-zeros zero = refl
little_endian-zeros (suc n) = omega (arith, little_endian-zeros n)

pub little_endian-padded : (bytes : List ℕ) (n : ℕ) → little_endian (bytes ++ replicate n 0) ≡ little_endian bytes
little_endian-padded [] n = little_endian-zeros n
little_endian-padded (b ∷ bytes) n = ap (λ x. b + 256 * x) (little_endian-padded bytes n)

pub length_bits : (bytes : List ℕ) (n : ℕ) → length (bits_in bytes n) ≡ n
length_bits bytes n = length-map-range_with_len (bit_in bytes) 0 n

pub get-bits : (bytes : List ℕ) (n k : ℕ) → k < n → get_or (bits_in bytes n) k false ≡ bit_in bytes k
get-bits bytes n k h = get_or-map-range_with_len (bit_in bytes) 0 n k k false h (omega arith)

-- a byte whose bit k is read: the bits below are as they were
bit_in-set_same : (bytes : List ℕ) (k w : ℕ) (v : Bool) → k < 8 * length bytes → (bit_at w (k % 8) == 1) ≡ v → bit_in (set bytes (k / 8) w) k ≡ v
bit_in-set_same bytes k w v inside same = ap (λ x. bit_at x (k % 8) == 1) (get_or-set_same bytes (k / 8) w 0 (omega arith)) ∙ same

bit_in-set_below : (bytes : List ℕ) (k j before w : ℕ) → k < 8 * length bytes → before ≡ get_or bytes (k / 8) before → ((i : ℕ) → i < k % 8 → bit_at w i ≡ bit_at before i) → j < k → bit_in (set bytes (k / 8) w) j ≡ bit_in bytes j
bit_in-set_below bytes k j before w inside read below less = elim (cases_eq (j / 8) (k / 8)) [
  | inl e ↦ ap (λ i. bit_at (get_or (set bytes (k / 8) w) i 0) (j % 8) == 1) e
      ∙ ap (λ x. bit_at x (j % 8) == 1) (get_or-set_same bytes (k / 8) w 0 (omega arith))
      ∙ ap (λ x. x == 1) (below (j % 8) (omega arith))
      ∙ ap (λ x. bit_at x (j % 8) == 1) (read ∙ get_or_default bytes (k / 8) before 0 (omega arith))
      ∙ ap (λ i. bit_at (get_or bytes i 0) (j % 8) == 1) (sym e)
  | inr e ↦ ap (λ x. bit_at x (j % 8) == 1) (get_or-set_other bytes (k / 8) (j / 8) w 0 e)
]

-- the bits above bit k in its byte are 0
pub bit_in-set_above : (bytes : List ℕ) (k j w : ℕ) → k < 8 * length bytes → ((i : ℕ) → i < 8 → k % 8 < i → bit_at w i ≡ 0) → k < j → j / 8 < (k + 1 + 7) / 8 → bit_in (set bytes (k / 8) w) j ≡ false
bit_in-set_above bytes k j w inside above more near =
    let e : j / 8 ≡ k / 8 = omega arith in
    ap (λ i. bit_at (get_or (set bytes (k / 8) w) i 0) (j % 8) == 1) e
    ∙ ap (λ x. bit_at x (j % 8) == 1) (get_or-set_same bytes (k / 8) w 0 (omega arith))
    ∙ ap (λ x. x == 1) (above (j % 8) (omega arith) (omega arith))

pub range_same : {X : Type 0} (f g : ℕ → X) (n : ℕ) (d : X) → ((j : ℕ) → j < n → g j ≡ f j) → map g (range_with_len 0 n) ≡ map f (range_with_len 0 n)
range_same f g n d same =
    fill_by_all f (map g (range_with_len 0 n)) n d (length-map-range_with_len g 0 n) (λ j below. get_or-map-range_with_len g 0 n j j d below (omega arith) ∙ same j below)

-- one more bit is read
pub bits_in-more : (bytes : List ℕ) (k before w : ℕ) (v : Bool) → k < 8 * length bytes → before ≡ get_or bytes (k / 8) before → ((i : ℕ) → i < k % 8 → bit_at w i ≡ bit_at before i) → (bit_at w (k % 8) == 1) ≡ v → bits_in (set bytes (k / 8) w) (k + 1) ≡ bits_in bytes k ++ v ∷ []
bits_in-more bytes k before w v inside read below same =
    map-range_with_len_more (bit_in (set bytes (k / 8) w)) 0 k k (omega arith)
    ∙ ap (λ xs. xs ++ bit_in (set bytes (k / 8) w) k ∷ []) (range_same (bit_in bytes) (bit_in (set bytes (k / 8) w)) k false (λ j less. bit_in-set_below bytes k j before w inside read below less))
    ∙ ap (λ b. bits_in bytes k ++ b ∷ []) (bit_in-set_same bytes k w v inside same)

-- past the bytes each bit is 0
pub bit_in-past : (bytes : List ℕ) (k : ℕ) → length bytes ≤ k / 8 → bit_in bytes k ≡ false
bit_in-past bytes k past = ap (λ x. bit_at x (k % 8) == 1) (get_or_past bytes (k / 8) 0 past) ∙ ap (λ b. b == 1) (bit_at-zero (k % 8))

pub bit_in-take : (bytes : List ℕ) (n k : ℕ) → k / 8 < n → bit_in (take n bytes) k ≡ bit_in bytes k
bit_in-take bytes n k h = ap (λ x. bit_at x (k % 8) == 1) (get_or-take n bytes (k / 8) 0 h)

-- the bytes of a read have the bits that were read, and 0 after them
pub bits-reported : (bytes : List ℕ) (bit n : ℕ) → bit ≤ 8 * n → n ≤ length bytes → ((k : ℕ) → bit ≤ k → k / 8 < n → bit_in bytes k ≡ false) → (k : ℕ) → bit_in (take n bytes) k ≡ get_or (bits_in bytes bit) k false
bits-reported bytes bit n fits room rest k = elim (cases_lt k bit) [
  | inl read ↦ bit_in-take bytes n k (omega arith) ∙ sym (get-bits bytes bit k read)
  | inr unread ↦
      elim (cases_lt (k / 8) n) [
        | inl inside ↦ bit_in-take bytes n k inside ∙ rest k unread inside
        | inr past ↦ bit_in-past (take n bytes) k (omega (arith, length-take-le n bytes room))
      ]
      ∙ sym (get_or_past (bits_in bytes bit) k false (omega (arith, length_bits bytes bit)))
]

-- the end of a bit's read
pub read-ends : (r : NumberRead) (v : Bool) → r.begun ≡ true → record r { bits = r.bits ++ v ∷ []; begun = false } ≡ number_read_after r v
read-ends r v is = ap (λ b. read-with r (cond b (r.bits ++ v ∷ []) r.bits) (not b)) (sym is)
