-- Lines of a process of one digit, an access and no mark.
use Rattle.std.proofs.Common.{◌≡◌, ℕ, zero, suc, ◌+◌, ◌-◌, ◌<◌, ◌≤◌, ◌==◌, ◌&&◌, not, nat_le, Bool, true, false, cond, if◌then◌else◌, List, [], ◌∷◌, ◌++◌, length, filter, codes, slice_index_or, take, drop, Option, Some, None, Result, Ok, Err, refl, ap, sym, ◌∙◌, arith, append-nil}
use Rattle.std.proofs.lemmas.Bool.{and_parts}
use Rattle.std.proofs.lemmas.Bool.Decides.{nat_tests}
use Rattle.std.proofs.lemmas.List.{take_rest}
use Rattle.std.proofs.lemmas.List.Splits.{slice_split_none}
use Rattle.std.specs.Char.{is_ascii_digit}
use Rattle.std.specs.List.{All, list_all, slice_split}
use Rattle.std.specs.Option.{ok_or}
use Rattle.std.specs.Str.Parse.{digits_value}
use Rattle.files.specs.{FaultKind, is_blank, known, words_of, ◌>>=◌}
use Rattle.files.specs.declared.faults.FaultKind.TheVariants.{Number}
use Rattle.scenario.specs.{are_digits, is_numeral, number_up_to}
use Rattle.scenario.proofs.Numerals.{numeral_is}
use Rattle.trace.specs.{Cell, CellAccess, CellMove, TraceRegister}
use Rattle.trace_file.specs.{MoveWord, access_of, both, cell_from, is_sign, move_of, move_word_of, named_move_of, value_of}
use Rattle.trace_file.specs.Lines.{AreUnsigned, IsAccess, IsEntry, IsValue, IsWholeMove, access_alone}
use Rattle.trace_file.specs.Reading.{one_value}
use Rattle.trace_file.proofs.Digits.{digit_is}
use Rattle.trace_file.proofs.LineWords.{access_and_marks, move_unsigned, one_unsigned, value_unsigned}

-- the parts of a line that have a byte
abbrev has_byte : List ℕ → Bool
has_byte word = not (length word == 0)

-- A digit and a space are the first word.
first_is : (b : ℕ) (bs : List ℕ) → is_ascii_digit b ≡ true → words_of (b ∷ 32 ∷ bs) ≡ (b ∷ []) ∷ words_of bs
first_is b bs digit =
    let plain : is_blank b ≡ false = grind (arith, nat_tests) in
    ap (λ t. filter has_byte (cond t ([] ∷ [] ∷ slice_split is_blank bs) ((b ∷ []) ∷ slice_split is_blank bs))) plain

pub first_word : (line : List ℕ) → 2 ≤ length line → is_ascii_digit (slice_index_or line 0 0) ≡ true → slice_index_or line 1 0 ≡ 32 → words_of line ≡ (slice_index_or line 0 0 ∷ []) ∷ words_of (take (length line - 2) (drop 2 line))
first_word [] some digit space = absurd (omega (arith, some))
first_word (b ∷ []) some digit space = absurd (omega (arith, some))
first_word (b ∷ c ∷ bs) some digit space = ap (λ d. words_of (b ∷ d ∷ bs)) space ∙ first_is b bs digit ∙ ap (λ rest. (b ∷ []) ∷ words_of rest) (sym (take_rest (b ∷ c ∷ bs) 2))

-- A value is a word.
digits_plain : (word : List ℕ) → are_digits word ≡ true → All (λ b. is_blank b ≡ false) word
digits_plain [] are k d within = absurd (omega arith)
digits_plain (b ∷ bs) are zero d within = let digit : is_ascii_digit b ≡ true = (and_parts (is_ascii_digit b) (are_digits bs) are).0 in grind (arith, nat_tests)
digits_plain (b ∷ bs) are (suc k) d within = digits_plain bs (and_parts (is_ascii_digit b) (are_digits bs) are).1 k d (omega arith)

numeral_of : (word : List ℕ) (n : ℕ) → value_of word ≡ Ok n → is_numeral word ≡ true
numeral_of word n is = by (is_numeral word) refl is
  where
    by : (b : Bool) → is_numeral word ≡ b → ok_or (if b && nat_le (digits_value 10 word) 4294967295 then Some (digits_value 10 word) else None) Number ≡ Ok n → is_numeral word ≡ true
    by true numeral is = numeral
    by false numeral is = absurd (cc)

value_word : (word : List ℕ) (n : ℕ) → value_of word ≡ Ok n → words_of word ≡ word ∷ []
value_word word n is =
    let digits = numeral_is word (numeral_of word n is) in
    let some : has_byte word ≡ true = by word digits.1 in
    ap (filter has_byte) (slice_split_none is_blank word (digits_plain word digits.0)) ∙ ap (λ b. cond b (word ∷ []) []) some
  where
    by : (w : List ℕ) → 0 < length w → has_byte w ≡ true
    by [] some = absurd (omega (arith, some))
    by (b ∷ bs) some = grind (arith, nat_tests)

-- A key word and a value are a move.
pub whole_value : (name : List ℕ) (m : MoveWord) (make : ℕ → CellMove) (words : List (List ℕ)) (w : List ℕ) (v : ℕ) → words ≡ name ∷ words_of w → move_word_of name ≡ Some m → ((ws : List (List ℕ)) → named_move_of m ws ≡ (one_value ws >>= λ n. Ok (make n))) → value_of w ≡ Ok v → IsWholeMove words (make v)
whole_value name m make words w v are named means says = record {
  name = name;
  operands = w ∷ [];
  are = are ∙ ap (λ ws. name ∷ ws) (value_word w v says);
  say =
      ap (λ o. known o >>= λ m. named_move_of m (w ∷ [])) named
      ∙ means (w ∷ [])
      ∙ ap (λ r. r >>= λ n. Ok (make n)) says;
  unsigned = one_unsigned name (w ∷ []) (move_unsigned name m named) (one_unsigned w [] (value_unsigned w v says) refl);
}

-- So is a key word alone.
pub whole_word : (name : List ℕ) (m : MoveWord) (how : CellMove) (words : List (List ℕ)) → words ≡ name ∷ [] → move_word_of name ≡ Some m → named_move_of m [] ≡ Ok how → IsWholeMove words how
whole_word name m how words are named means = record {
  name = name;
  operands = [];
  are = are;
  say = ap (λ o. known o >>= λ m. named_move_of m []) named ∙ means;
  unsigned = one_unsigned name [] (move_unsigned name m named) refl;
}

-- A process of one digit, the word of a cell and a move are an entry.
pub short_is : (registers : List TraceRegister) (words : List (List ℕ)) (d : ℕ) (behind place text : List ℕ) (cell : Cell) (how : CellMove) → words ≡ (d ∷ []) ∷ words_of behind → is_ascii_digit d ≡ true → words_of behind ≡ place ∷ words_of text → is_sign place ≡ false → cell_from 0 registers place ≡ Ok cell → IsWholeMove (words_of text) how
    → IsEntry registers words (access_alone (d - 48) (record { cell = cell; how = how }))
short_is registers words d behind place text cell how are digit next plain found move =
    access_and_marks registers words (d ∷ []) place behind [] (words_of text) (d - 48) (record { cell = cell; how = how }) [] are (digit_is 255 d digit (omega arith)) next (record {
      part = place ∷ move.name ∷ move.operands;
      are = ap (λ ws. place ∷ ws) move.are ∙ sym (append-nil (place ∷ move.name ∷ move.operands));
      say = ap (λ r. both r (move_of (move.name ∷ move.operands)) >>= made) found ∙ ap (λ r. both (Ok cell) r >>= made) move.say;
      unsigned = one_unsigned place (move.name ∷ move.operands) plain move.unsigned;
    }) (record { parts = []; are = refl; say = refl })
  where
    made : Cell × CellMove → Result (Option CellAccess) FaultKind
    made read = Ok (Some (record { cell = read.0; how = read.1 }))
