-- Sets of values, and what a read may give as it is kept.
use Rattle.std.proofs.Common.{◌≡◌, ◌≢◌, ℕ, zero, suc, ◌/◌, ◌%◌, ◌<◌, ◌==◌, Bool, true, false, not, ◌||◌, List, [], ◌∷◌, ◌++◌, get_or, length, refl, sym, ap, ◌∙◌, arith, inl, inr, w64, eq-eqb, ne_eqb, length-set}
use Rattle.std.specs.Int.{bit_at}
use Rattle.std.proofs.lemmas.Bool.{cases_eq}
use Rattle.std.proofs.lemmas.List.{get_or-set_same, get_or-set_other}
use Rattle.std.proofs.lemmas.List.Folds.{list_any-append}
use Rattle.std.proofs.lemmas.Nat.Bits.{bit_at-zero, bit_at_set_same, bit_at_set_other}
use Rattle.trace.specs.{TraceMemory, TraceRegister}
use Rattle.trace.specs.declared.setups.TraceMemory.TheVariants.{Safe, Regular, Atomic}
use Rattle.trace_memory.specs.{CellRead, ValueSet, allowed_by, allowed_of, allows, has_value, is_among, may_give, no_values, overlapping, set_of, stored, with_bit, with_value}

pub or_false : (b : Bool) → (b || false) ≡ b
or_false true = refl
or_false false = refl

pub four_words : (values : List ℕ) → length (set_of values).words ≡ 4
four_words [] = refl
four_words (v ∷ values) = length-set (set_of values).words (v / 64) _ ∙ four_words values

-- the bit of a word
abbrev bit_of : List ℕ → ℕ → ℕ
bit_of words v = bit_at (get_or words (v / 64) 0) (v % 64)

bit-same : (set : ValueSet) (v : ℕ) → length set.words ≡ 4 → v < 256 → bit_of (with_value v set).words v ≡ 1
bit-same set v size below =
    let inside : v / 64 < length set.words = omega (arith, size) in
    let bit : v % 64 < 64 = omega arith in
    ap (λ n. bit_at n (v % 64)) (get_or-set_same set.words (v / 64) (with_bit (v % 64) (get_or set.words (v / 64) 0)) 0 inside)
    ∙ bit_at_set_same w64 (get_or set.words (v / 64) 0) (v % 64) bit

bit-other : (set : ValueSet) (w v : ℕ) → length set.words ≡ 4 → v < 256 → w ≢ v → bit_of (with_value w set).words v ≡ bit_of set.words v
bit-other set w v size below apart = elim (cases_eq (v / 64) (w / 64)) [
  | inl same ↦
      let bits : v % 64 ≢ w % 64 = λ e. apart (omega (arith, same, e)) in
      let bit : w % 64 < 64 = omega arith in
      let inside : w / 64 < length set.words = omega (arith, size, same) in
      ap (λ n. bit_at (get_or (with_value w set).words n 0) (v % 64)) same
      ∙ ap (λ n. bit_at n (v % 64)) (get_or-set_same set.words (w / 64) (with_bit (w % 64) (get_or set.words (w / 64) 0)) 0 inside)
      ∙ bit_at_set_other w64 (get_or set.words (w / 64) 0) (w % 64) bit (v % 64) bits
      ∙ ap (λ n. bit_at (get_or set.words n 0) (v % 64)) (sym same)
  | inr words ↦ ap (λ n. bit_at n (v % 64)) (get_or-set_other set.words (w / 64) (v / 64) (with_bit (w % 64) (get_or set.words (w / 64) 0)) 0 words)
]

zero_word : (k : ℕ) → get_or no_values.words k 0 ≡ 0
zero_word zero = refl
zero_word (suc zero) = refl
zero_word (suc (suc zero)) = refl
zero_word (suc (suc (suc zero))) = refl
zero_word (suc (suc (suc (suc k)))) = refl

-- a set has the values that it is made of
pub has-set : (values : List ℕ) (v : ℕ) → v < 256 → has_value (set_of values) v ≡ is_among values v
has-set [] v below = ap (λ n. bit_at n (v % 64) == 1) (zero_word (v / 64)) ∙ ap (λ n. n == 1) (bit_at-zero (v % 64))
has-set (w ∷ values) v below = elim (cases_eq w v) [
  | inl same ↦
      ap (λ x. bit_of (with_value x (set_of values)).words v == 1) same
      ∙ ap (λ n. n == 1) (bit-same (set_of values) v (four_words values) below)
      ∙ ap (λ b. b || is_among values v) (sym (eq-eqb w v same))
  | inr apart ↦
      ap (λ n. n == 1) (bit-other (set_of values) w v (four_words values) below apart)
      ∙ has-set values v below
      ∙ ap (λ b. b || is_among values v) (sym (ne_eqb w v apart))
]

-- What a read may give, as it is kept.
allows-safe : (x v : ℕ) (values : List ℕ) → allows (allowed_of Safe x values) v ≡ (not (length values == 0) || (x == v))
allows-safe x v [] = refl
allows-safe x v (w ∷ values) = ap (λ b. not b || (x == v)) (sym (ne_eqb (length (w ∷ values)) 0 (λ e. omega arith)))

pub allows-may : (m : TraceMemory) (r : TraceRegister) (read : CellRead) (v : ℕ) → (m ≡ Regular → v < 256) → allows (allowed_by m r read) v ≡ may_give m r read v
allows-may Safe r read v below = allows-safe (stored r read.before) v (overlapping read)
allows-may Regular r read v below =
    has-set (overlapping read ++ stored r read.before ∷ []) v (below refl)
    ∙ list_any-append (λ x. x == v) (overlapping read) (stored r read.before ∷ [])
    ∙ ap (λ b. is_among (overlapping read) v || b) (or_false (stored r read.before == v))
allows-may Atomic r read v below = refl
