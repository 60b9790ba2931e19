-- Each bit has a word of its own, from which the bit can be found.
use Rattle.std.proofs.Common.{◌≡◌, ℕ, zero, suc, ◌+◌, ◌-◌, ◌*◌, ◌/◌, ◌%◌, ◌<◌, ◌≤◌, ◌==◌, ◌&&◌, Bool, true, false, List, [], ◌∷◌, ◌++◌, length, refl, sym, ap, ◌∙◌, below_more, arith, eq-eqb, mul-le-mul_right, suc-mul}
use Rattle.std.proofs.Math.Nat.{div-lt_iff_lt-mul, le-div_iff_mul-le, mod-lt}
use Rattle.std.proofs.Math.ListN.{get_or-append}
use Rattle.std.proofs.lemmas.List.{get_or_push}
use Rattle.std.proofs.lemmas.Bool.{lt-ltb, le-ltb}
use Rattle.std.proofs.lemmas.Bool.Decides.{nat_tests}
use Rattle.std.proofs.lemmas.Nat.{div-mul-add}
use Rattle.std.specs.Prelude.{nat_lt, slice_index, slice_index_or}
use Rattle.model.specs.{Access, Field, field_number, fields, opening_bits, same_bit, width}
use Rattle.model.specs.declared.access.Field.TheVariants.{Image0}
use Rattle.plain_store.specs.{Setup}
use Rattle.laws.specs.{IsThere}
use Rattle.laws.proofs.FrameCells.{OnCopy, on-copy}
use Rattle.process.specs.registers.{BitCopy, copy_named}
use Rattle.board.specs.{access_to, bits_of, bit_in_row, closed_word, copy_of, first_bit, opening_word, row_bits, word_of, words_in}

-- A number of two digits.

pub quotient : (n high low : ℕ) → low < n → (high * n + low) / n ≡ high
quotient n high low h = div-mul-add high n low h

pub remainder : (n high low : ℕ) → low < n → (high * n + low) % n ≡ low
remainder n high low h = grind arith

pub below : (m n high low : ℕ) → high < m → low < n → high * n + low < m * n
below m n high low a b = let h : suc high * n ≤ m * n = mul-le-mul_right n a in omega (arith, suc-mul high n)

-- A row.

-- a position after the bits of the earlier registers belongs to the next register
found : (s : Setup) (before : List Field) (field : Field) (after : List Field) (k : ℕ) → k < width s field → bit_in_row s (before ++ field ∷ after) (bits_of s before + k) ≡ (field, k)
found s [] field after k h =
    ap (λ b. elim b as (λ _. Field × ℕ) [ true ↦ (field, 0 + k) | false ↦ bit_in_row s after (0 + k - width s field) ]) (lt-ltb (0 + k) (width s field) (omega arith))
    ∙ ap (λ j. (field, j)) (let same : 0 + k ≡ k = omega arith in same)
found s (other ∷ before) field after k h =
    ap (λ b. elim b as (λ _. Field × ℕ) [ true ↦ (other, bits_of s (other ∷ before) + k) | false ↦ bit_in_row s (before ++ field ∷ after) (bits_of s (other ∷ before) + k - width s other) ])
    (le-ltb (bits_of s (other ∷ before) + k) (width s other) (omega arith))
    ∙ ap (bit_in_row s (before ++ field ∷ after)) (let same : bits_of s (other ∷ before) + k - width s other ≡ bits_of s before + k = omega arith in same)
    ∙ found s before field after k h

-- the bit can be found from its position in the row
pub placed : (s : Setup) (field : Field) (k : ℕ) → k < width s field → bit_in_row s fields (first_bit s field + k) ≡ (field, k)
placed s field k h = grind arith

-- the position of a bit lies in the row
pub in_row : (s : Setup) (field : Field) (k : ℕ) → k < width s field → first_bit s field + k < row_bits s
in_row s field k h = grind arith

-- The words.

-- the copy of an access can be found from its word
pub copy_of_word : (s : Setup) (a : Access) → IsThere s a → copy_of s (word_of s a) ≡ copy_named a
copy_of_word s a there =
    let row = in_row s a.field a.bit there.bit in
    let copy : word_of s a / row_bits s ≡ a.owner * s.processes + a.reader = quotient (row_bits s) (a.owner * s.processes + a.reader) (first_bit s a.field + a.bit) row in
    let at : bit_in_row s fields (word_of s a % row_bits s) ≡ (a.field, a.bit) = ap (bit_in_row s fields) (remainder (row_bits s) (a.owner * s.processes + a.reader) (first_bit s a.field + a.bit) row) ∙ placed s a.field a.bit there.bit in
    let owner : word_of s a / row_bits s / s.processes ≡ a.owner = ap (λ k. k / s.processes) copy ∙ quotient s.processes a.owner a.reader there.reader in
    let reader : word_of s a / row_bits s % s.processes ≡ a.reader = ap (λ k. k % s.processes) copy ∙ remainder s.processes a.owner a.reader there.reader in
    λ i. record { register = record { owner = owner i; field = (at i).0 }; bit = (at i).1; reader = reader i }

all_true : (k r o f : Bool) → k ≡ true → r ≡ true → o ≡ true → f ≡ true → (k && r && o && f) ≡ true
all_true k r o f a b c d = λ i. a i && b i && c i && d i

-- bits of one word are one bit
pub one_word : (s : Setup) (a b : Access) → IsThere s a → IsThere s b → word_of s a ≡ word_of s b → same_bit a b ≡ true
one_word s a b a_there b_there same =
    let one : copy_named a ≡ copy_named b = sym (copy_of_word s a a_there) ∙ (ap (copy_of s) same ∙ copy_of_word s b b_there) in
    all_true (a.bit == b.bit) (a.reader == b.reader) (a.owner == b.owner) (field_number a.field == field_number b.field)
    (eq-eqb a.bit b.bit (ap (λ (x : BitCopy). x.bit) one)) (eq-eqb a.reader b.reader (ap (λ (x : BitCopy). x.reader) one)) (eq-eqb a.owner b.owner (ap (λ (x : BitCopy). x.register.owner) one))
    (eq-eqb (field_number a.field) (field_number b.field) (ap (λ (x : BitCopy). field_number x.register.field) one))

-- one bit has one word
pub one_bit : (s : Setup) (a b : Access) → same_bit a b ≡ true → word_of s a ≡ word_of s b
one_bit s a b h =
    let on : OnCopy b a.owner a.field a.bit a.reader = on-copy b a.owner a.field a.bit a.reader h in
    λ i. (on.owner i * s.processes + on.reader i) * row_bits s + (first_bit s (on.field i) + on.bit i)

-- the word of an access is within the number of words
pub word_below : (s : Setup) (a : Access) → IsThere s a → word_of s a < words_in s
word_below s a there =
    below (s.processes * s.processes) (row_bits s) (a.owner * s.processes + a.reader) (first_bit s a.field + a.bit)
    (below s.processes s.processes a.owner a.reader there.owner there.reader) (in_row s a.field a.bit there.bit)

-- the bit can be found from a position among the bits of its register
pub at_place : (s : Setup) (field : Field) (place : ℕ) → first_bit s field ≤ place → place < first_bit s field + width s field → bit_in_row s fields place ≡ (field, place - first_bit s field)
at_place s field place from within =
    ap (bit_in_row s fields) (let same : place ≡ first_bit s field + (place - first_bit s field) = omega arith in same) ∙ placed s field (place - first_bit s field) (omega arith)

-- Each word is the word of a bit that exists.

in_register : (s : Setup) (registers : List Field) (place : ℕ) → place < bits_of s registers → (bit_in_row s registers place).1 < width s (bit_in_row s registers place).0
in_register s [] place h = absurd (omega arith)
in_register s (field ∷ others) place h = by (nat_lt place (width s field)) refl (in_register s others (place - width s field))
  where
    by : (b : Bool) → nat_lt place (width s field) ≡ b → (place - width s field < bits_of s others → (bit_in_row s others (place - width s field)).1 < width s (bit_in_row s others (place - width s field)).0)
        → let at : Field × ℕ = elim b as (λ _. Field × ℕ) [ true ↦ (field, place) | false ↦ bit_in_row s others (place - width s field) ] in
        at.1 < width s at.0
    by true is later = grind (arith, nat_tests)
    by false is later = later (grind (arith, nat_tests))

pub bit_there : (s : Setup) (word : ℕ) → 0 < s.processes → word < words_in s → IsThere s (access_to (copy_of s word))
bit_there s word some_ below_ =
    let row : 0 < row_bits s = omega arith in
    let copy : word / row_bits s < s.processes * s.processes = (div-lt_iff_lt-mul row).1 below_ in
    record {
      owner = (div-lt_iff_lt-mul some_).1 copy;
      reader = mod-lt (word / row_bits s) some_;
      bit = in_register s fields (word % row_bits s) (mod-lt word row);
    }

none : (k : ℕ) → slice_index_or [] k false ≡ false
none zero = refl
none (suc k) = refl

-- opening words, followed by the next one
pub opening_more : (s : Setup) (words later : List ℕ) (n word : ℕ) → length words ≡ n → later ≡ words ++ word ∷ [] → word ≡ opening_word s n → ((k : ℕ) → k < n → slice_index words k ≡ opening_word s k) → (k : ℕ) → k < n + 1 → slice_index later k ≡ opening_word s k
opening_more s words later n word long pushed is each =
    below_more (λ k. slice_index later k ≡ opening_word s k) n
    (λ k low. let within : k < length words = omega (arith, long, low) in ap (λ ws. slice_index ws k) pushed ∙ get_or-append words (word ∷ []) 0 k within ∙ each k low)
    (ap (λ ws. slice_index ws n) pushed ∙ get_or_push words word 0 n long ∙ is)

-- a bit as a word of the machine
pub byte_word : (b : Bool) → mir.Val.bool_byte b ≡ closed_word b
byte_word true = refl
byte_word false = refl

-- each register except the first images is initially 0
pub opens_low : (s : Setup) (owner : ℕ) (field : Field) (k : ℕ) → (field ≡ Image0 → ⊥) → slice_index_or (opening_bits s owner field) k false ≡ false
opens_low s owner field k h = grind arith

-- each register of another process than 0 is initially 0
pub opens_elsewhere : (s : Setup) (owner : ℕ) (field : Field) (k : ℕ) → (owner ≡ 0 → ⊥) → slice_index_or (opening_bits s owner field) k false ≡ false
opens_elsewhere s zero field k h = absurd (h refl)
opens_elsewhere s (suc owner) field k h = none k

-- so the words after those of process 0 are initially 0
pub opens_late : (s : Setup) (word : ℕ) → 0 < s.processes → word < words_in s → s.processes * row_bits s ≤ word → opening_word s word ≡ 0
opens_late s word some_ below_ from =
    let row : 0 < row_bits s = omega arith in
    let copy : s.processes ≤ word / row_bits s = (le-div_iff_mul-le row).1 from in
    let one : 1 * s.processes ≤ word / row_bits s = omega arith in
    let owner : 1 ≤ (copy_of s word).register.owner = (le-div_iff_mul-le some_).1 one in
    let c = copy_of s word in
    ap closed_word (opens_elsewhere s c.register.owner c.register.field c.bit (λ none. absurd (omega arith)))
