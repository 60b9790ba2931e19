-- The value of a register, read from the words of its lane.
use Rattle.std.proofs.Common.{◌≡◌, ◌<◌, ◌+◌, ◌*◌, ◌/◌, ◌%◌, ℕ, Bool, false, List, [], get_or, set, length, map, sym, ◌∙◌, arith, inl, inr}
use Rattle.std.proofs.lemmas.Bool.{cases_eq}
use Rattle.std.proofs.lemmas.List.{ext_get_or, get_or_default, get_or-map, length-map}
use Rattle.safe_bit.specs.Cell.{Cell, new_cell}
use Rattle.reader_copies.specs.{bit_of_words, bits_of_words, cell_in, flag_in}
use Rattle.registers.specs.{lane_of}
use Rattle.reader_copies.proofs.Words.{bit-found, length-bits}
use Rattle.registers.proofs.Words.{bit-elsewhere, bit-in_word}

-- words that have the values of a lane's cells hold them
pub values-kept : (words : List ℕ) (lane : List Cell) (n : ℕ) → length lane ≡ n → ((k : ℕ) → k < n → bit_of_words words k ≡ (cell_in lane k).value) → bits_of_words words n ≡ map (λ (c : Cell). c.value) lane
values-kept words lane n long same =
    let value : Cell → Bool = λ c. c.value in
    ext_get_or false (bits_of_words words n) (map value lane) (length-bits words n ∙ sym long ∙ sym (length-map lane value))
    (λ k below.
    let inside : k < n = omega (arith, length-bits words n) in
    bit-found words n k inside ∙ same k inside ∙ sym (get_or-map value lane k (new_cell false) false (omega (arith, long))))

-- a lane that an index found
pub lane-found : (items memory : List (List Cell)) (at lane : ℕ) (now : List Cell) → items ≡ memory → at ≡ lane → now ≡ get_or items at now → lane < length memory → now ≡ lane_of memory lane
lane-found items memory at lane now shown here found there =
    let none : List Cell = [] in
    found ∙ (λ i. get_or (shown i) (here i) now) ∙ get_or_default memory lane now none there

-- one word more
pub words-more : (words : List ℕ) (lane : List Cell) (place word : ℕ) → length words ≡ 27 → place < 27 → ((k : ℕ) → k < 64 * place → k < length lane → bit_of_words words k ≡ (cell_in lane k).value) →
    ((k : ℕ) → k / 64 ≡ 64 * place / 64 → k < length lane → flag_in word (k % 64) ≡ (cell_in lane k).value) →
    (k : ℕ) → k < 64 * (place + 1) → k < length lane → bit_of_words (set words place word) k ≡ (cell_in lane k).value
words-more words lane place word room inside before same k below there = elim (cases_eq (k / 64) place) [
  | inl here ↦ bit-in_word words place word k (omega (arith, room)) here ∙ same k (omega (arith, here)) there
  | inr other ↦ bit-elsewhere words place word k other ∙ before k (omega arith) there
]
