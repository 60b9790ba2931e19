-- Words as a list of bits.
use Rattle.std.proofs.Common.{true, ◌≡◌, ◌≢◌, ℕ, zero, suc, ◌+◌, ◌/◌, ◌%◌, ◌<◌, ◌≤◌, Bool, false, cond, List, [], ◌∷◌, ◌++◌, set, get_or, length, refl, sym, ◌∙◌, arith, ap, inl, inr}
use Rattle.std.proofs.lemmas.Bool.{cases_eq}
use Rattle.std.proofs.lemmas.List.{get_or-set_same, get_or-set_other}
use mir.Val.{bool_byte}
use Rattle.reader_copies.proofs.Words.{bit-found, length-bits}
use Rattle.reader_copies.specs.{IsMask, SetsFlag, bit_of_words, bits_of_words, flag_in}
use Rattle.registers.specs.declared.cursor.RegisterAccessKind.TheVariants.{Reads, Writes, Settles}
use Rattle.registers.specs.{RegisterAccessKind, bits_kept, more_bits}

pub bits-same : (a b : List ℕ) (n : ℕ) → ((i : ℕ) → i < n → bit_of_words a i ≡ bit_of_words b i) → bits_of_words a n ≡ bits_of_words b n
bits-same a b zero same = refl
bits-same a b (suc n) same =
    let before : bits_of_words a n ≡ bits_of_words b n = bits-same a b n (λ i h. same i (omega arith)) in
    let last : bit_of_words a n ≡ bit_of_words b n = same n (omega arith) in
    ap (λ bits. bits ++ bit_of_words a n ∷ []) before ∙ ap (λ v. bits_of_words b n ++ v ∷ []) last

-- a word is written at its position
pub bit-in_word : (words : List ℕ) (place now i : ℕ) → place < length words → i / 64 ≡ place → bit_of_words (set words place now) i ≡ flag_in now (i % 64)
bit-in_word words place now i there e = ap (λ p. flag_in (get_or (set words place now) p 0) (i % 64)) e ∙ ap (λ w. flag_in w (i % 64)) (get_or-set_same words place now 0 there)

pub bit-elsewhere : (words : List ℕ) (place now i : ℕ) → i / 64 ≢ place → bit_of_words (set words place now) i ≡ bit_of_words words i
bit-elsewhere words place now i e = ap (λ w. flag_in w (i % 64)) (get_or-set_other words place (i / 64) now 0 e)

-- one bit is set
pub bits-kept : (words : List ℕ) (bit old now : ℕ) (v : Bool) → bit / 64 < length words → old ≡ get_or words (bit / 64) 0 → SetsFlag old (bit % 64) v now → bits_of_words (set words (bit / 64) now) (suc bit) ≡ bits_of_words words bit ++ v ∷ []
bits-kept words bit old now v there is sets =
    let below : bits_of_words (set words (bit / 64) now) bit ≡ bits_of_words words bit = bits-same (set words (bit / 64) now) words bit (λ i h. elim (cases_eq (i / 64) (bit / 64)) [
      | inl e ↦ bit-in_word words (bit / 64) now i there e ∙ sets.others (i % 64) (omega arith) (omega arith) ∙ ap (λ w. flag_in w (i % 64)) (is ∙ ap (λ p. get_or words p 0) (sym e))
      | inr e ↦ bit-elsewhere words (bit / 64) now i e
    ]) in
    let last : bit_of_words (set words (bit / 64) now) bit ≡ v = bit-in_word words (bit / 64) now bit there refl ∙ sets.same in
    ap (λ bits. bits ++ bit_of_words (set words (bit / 64) now) bit ∷ []) below ∙ ap (λ b. bits_of_words words bit ++ b ∷ []) last

-- more bits follow
pub bits-grow : (a b : List ℕ) (bit n : ℕ) (f : ℕ → Bool) → ((i : ℕ) → i < bit → bit_of_words b i ≡ bit_of_words a i) → ((j : ℕ) → j < n → bit_of_words b (bit + j) ≡ f j) → bits_of_words b (bit + n) ≡ more_bits n f (bits_of_words a bit)
bits-grow a b bit zero f same new = ap (bits_of_words b) (let e : bit + 0 ≡ bit = omega arith in e) ∙ bits-same b a bit same
bits-grow a b bit (suc n) f same new =
    let before : bits_of_words b (bit + n) ≡ more_bits n f (bits_of_words a bit) = bits-grow a b bit n f same (λ j h. new j (omega arith)) in
    let last : bit_of_words b (bit + n) ≡ f n = new n (omega arith) in
    ap (bits_of_words b) (let e : bit + suc n ≡ suc (bit + n) = omega arith in e) ∙ (λ i. before i ++ last i ∷ [])

-- a word whose masked bits are replaced, at its position
pub bits-chosen : (words : List ℕ) (bit n old now word mask : ℕ) → bit / 64 < length words → bit % 64 + n ≤ 64 → old ≡ get_or words (bit / 64) 0 → IsMask (bit % 64) n mask → ((i : ℕ) → flag_in now i ≡ cond (flag_in mask i) (flag_in word i) (flag_in old i)) → bits_of_words (set words (bit / 64) now) (bit + n) ≡ more_bits n (λ j. flag_in word ((bit + j) % 64)) (bits_of_words words bit)
bits-chosen words bit n old now word mask there inside is masks chosen =
    bits-grow words (set words (bit / 64) now) bit n (λ j. flag_in word ((bit + j) % 64))
    (λ i h. elim (cases_eq (i / 64) (bit / 64)) [
      | inl e ↦ bit-in_word words (bit / 64) now i there e ∙ chosen (i % 64) ∙ ap (λ b. cond b (flag_in word (i % 64)) (flag_in old (i % 64))) (masks.below (i % 64) (omega arith)) ∙ ap (λ w. flag_in w (i % 64)) (is ∙ ap (λ p. get_or words p 0) (sym e))
      | inr e ↦ bit-elsewhere words (bit / 64) now i e
    ])
    (λ j h. bit-in_word words (bit / 64) now (bit + j) there (omega arith) ∙ chosen ((bit + j) % 64) ∙ ap (λ b. cond b (flag_in word ((bit + j) % 64)) (flag_in old ((bit + j) % 64))) (masks.inside ((bit + j) % 64) (omega arith) (omega arith)))

bits-below : (words : List ℕ) (bit old now : ℕ) (v : Bool) → bit / 64 < length words → old ≡ get_or words (bit / 64) 0 → SetsFlag old (bit % 64) v now → bits_of_words (set words (bit / 64) now) bit ≡ bits_of_words words bit
bits-below words bit old now v there is sets = bits-same (set words (bit / 64) now) words bit (λ i h. elim (cases_eq (i / 64) (bit / 64)) [
  | inl e ↦ bit-in_word words (bit / 64) now i there e ∙ sets.others (i % 64) (omega arith) (omega arith) ∙ ap (λ w. flag_in w (i % 64)) (is ∙ ap (λ p. get_or words p 0) (sym e))
  | inr e ↦ bit-elsewhere words (bit / 64) now i e
])

-- one bit is set, or none
pub bits-gone : (begun v : Bool) (words : List ℕ) (bit old now : ℕ) → bit / 64 < length words → old ≡ get_or words (bit / 64) 0 → SetsFlag old (bit % 64) (cond begun v (flag_in old (bit % 64))) now → bits_of_words (set words (bit / 64) now) (bit + bool_byte begun) ≡ cond begun (bits_of_words words bit ++ v ∷ []) (bits_of_words words bit)
bits-gone true v words bit old now there is sets = ap (bits_of_words (set words (bit / 64) now)) (let e : bit + 1 ≡ suc bit = omega arith in e) ∙ bits-kept words bit old now v there is sets
bits-gone false v words bit old now there is sets = ap (bits_of_words (set words (bit / 64) now)) (let e : bit + 0 ≡ bit = omega arith in e) ∙ bits-below words bit old now (flag_in old (bit % 64)) there is sets

pub next-bit : (begun : Bool) (bit : ℕ) → bit + bool_byte begun ≡ cond begun (bit + 1) bit
next-bit true bit = refl
next-bit false bit = omega arith

-- a bit that is written is one of its word
pub word-written : (words : List ℕ) (bits : List Bool) (word bit width i : ℕ) → i / 64 ≡ bit / 64 → i < width → word ≡ get_or words (bit / 64) 0 → bits_of_words words width ≡ bits → flag_in word (i % 64) ≡ get_or bits i false
word-written words bits word bit width i same inside word_is bits_are =
    ap (λ w. flag_in w (i % 64)) (word_is ∙ ap (λ p. get_or words p 0) (sym same))
    ∙ sym (bit-found words width i inside)
    ∙ ap (λ l. get_or l i false) bits_are

-- the bits that a cursor keeps are the first ones of its words
kept-first : (run : RegisterAccessKind) (words : List ℕ) (bit width : ℕ) → bits_of_words words (length (bits_kept run words bit width)) ≡ bits_kept run words bit width
kept-first Reads words bit width = ap (bits_of_words words) (length-bits words bit)
kept-first Writes words bit width = ap (bits_of_words words) (length-bits words width)
kept-first (Settles cut value) words bit width = ap (bits_of_words words) (length-bits words width)

pub bits-known : (run : RegisterAccessKind) (words : List ℕ) (bit width : ℕ) (bits : List Bool) → bits_kept run words bit width ≡ bits → bits_of_words words (length bits) ≡ bits
bits-known run words bit width bits is = ap (λ (l : List Bool). bits_of_words words (length l)) (sym is) ∙ kept-first run words bit width ∙ is
