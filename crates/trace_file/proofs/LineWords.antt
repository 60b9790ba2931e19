-- The parts of an entry without a fault, whose words are read one after the other.
use Rattle.std.proofs.Common.{◌≡◌, ℕ, ◌+◌, ◌<◌, ◌==◌, ◌||◌, not, nat_le, nat_lt, ◌&&◌, Bool, true, false, cond, if◌then◌else◌, List, [], ◌∷◌, ◌++◌, length, codes, Option, Some, None, Result, Ok, Err, refl, ap, sym, subst, ◌∙◌, arith}
use Rattle.std.proofs.lemmas.Bool.{and_parts}
use Rattle.std.proofs.lemmas.Bool.Decides.{nat_tests}
use Rattle.std.proofs.lemmas.Slice.Eq.{bytes_eq-Decides}
use Rattle.std.specs.Borrow.{Bor}
use Rattle.std.specs.Char.{is_ascii_digit}
use Rattle.std.specs.List.{list_all, onto_first}
use Rattle.std.specs.Option.{ok_or}
use Rattle.std.specs.Str.Parse.{digits_value}
use Rattle.files.specs.{FaultKind, counted, fault_if, known, texts, words_of, ◌>>=◌}
use Rattle.files.specs.declared.faults.FaultKind.TheVariants.{Number, Words}
use Rattle.scenario.specs.{are_digits, number_at}
use Rattle.trace.specs.{Cell, CellAccess, CellMove, LockMark, TraceEntry, TraceRegister, begins_with_digit}
use Rattle.trace.specs.declared.accesses.CellMove.TheVariants as move
use Rattle.trace_file.specs.{MoveWord, access_of, both, cas_values, cell_from, entry_by, entry_of, entry_with, is_sign, mark_word_of, marks_read, move_of, move_word_of, named_move_of, parts_of, two_values, value_of, with_mark}
use Rattle.trace_file.specs.Lines.{AreMarks, AreUnsigned, IsAccess, IsEntry, IsGiven, IsMove, IsValue}
use Rattle.trace_file.specs.Reading.{one_value}
use Rattle.trace_file.specs.declared.keywords.MoveWord.TheVariants as word

-- a word with a property that the sign does not have is not the sign
pub unsigned : (w : List ℕ) (P : List ℕ → Type 0) → P w → (P (codes ":") → ⊥) → is_sign w ≡ false
unsigned w P holds never = by (is_sign w) refl
  where
    by : (b : Bool) → is_sign w ≡ b → b ≡ false
    by true is = absurd (never (subst P ((bytes_eq-Decides w (codes ":")).0 is) holds))
    by false is = refl

-- words before signed marks are the first part
pub part_before : (part ws : List (List ℕ)) (parts : List (List (List ℕ))) → AreUnsigned part → parts_of ws ≡ [] ∷ parts → parts_of (part ++ ws) ≡ part ∷ parts
part_before [] ws parts none are = are
part_before (w ∷ part) ws parts none are =
    let both = and_parts (not (is_sign w)) (list_all (λ v. not (is_sign v)) part) none in
    by (is_sign w) both.0 ∙ ap (onto_first w) (part_before part ws parts both.1 are)
  where
    by : (b : Bool) → not b ≡ true → cond b ([] ∷ parts_of (part ++ ws)) (onto_first w (parts_of (part ++ ws))) ≡ onto_first w (parts_of (part ++ ws))
    by true is = absurd (cc)
    by false is = refl

-- no word of a mark, no key word of a move and no value is a sign
mark_unsigned : (w : List ℕ) (m : LockMark) → mark_word_of w ≡ Some m → is_sign w ≡ false
mark_unsigned w m is = unsigned w (λ v. mark_word_of v ≡ Some m) is (λ none. cc)

pub move_unsigned : (w : List ℕ) (m : MoveWord) → move_word_of w ≡ Some m → is_sign w ≡ false
move_unsigned w m is = unsigned w (λ v. move_word_of v ≡ Some m) is (λ none. cc)

pub value_unsigned : (w : List ℕ) (n : ℕ) → value_of w ≡ Ok n → is_sign w ≡ false
value_unsigned w n is = unsigned w (λ v. value_of v ≡ Ok n) is (λ none. cc)

-- one more word that is not a sign
pub one_unsigned : (w : List ℕ) (ws : List (List ℕ)) → is_sign w ≡ false → AreUnsigned ws → AreUnsigned (w ∷ ws)
one_unsigned w ws is are = ap (λ b. not b && list_all (λ v. not (is_sign v)) ws) is ∙ are

-- one value after a key word
pub of_value : (name : MoveWord) (make : ℕ → CellMove) (words : List (List ℕ)) (v : ℕ) (behind : List ℕ) → ((ws : List (List ℕ)) → named_move_of name ws ≡ (one_value ws >>= λ n. Ok (make n))) → IsValue words v behind → IsMove name words (make v) behind
of_value name make words v behind means is = record {
  operands = is.first ∷ [];
  are = is.are;
  say = means (is.first ∷ []) ∙ ap (λ r. r >>= λ n. Ok (make n)) is.says;
  unsigned = one_unsigned is.first [] (value_unsigned is.first v is.says) refl;
}

-- a move by its key word
pub for_name : (n m : MoveWord) (words : List (List ℕ)) (how : CellMove) (behind : List ℕ) → n ≡ m → IsMove m words how behind → IsMove n words how behind
for_name n m words how behind same is = record {
  operands = is.operands;
  are = is.are;
  say = ap (λ k. named_move_of k is.operands) same ∙ is.say;
  unsigned = is.unsigned;
}

-- none
pub of_none : (name : MoveWord) (how : CellMove) (behind : List ℕ) → named_move_of name [] ≡ Ok how → IsMove name (words_of behind) how behind
of_none name how behind means = record { operands = []; are = refl; say = means; unsigned = refl }

-- `K gives OLD`
two_are : (a b : List ℕ) (m n : ℕ) → value_of a ≡ Ok m → value_of b ≡ Ok n → two_values (a ∷ codes "gives" ∷ b ∷ []) ≡ Ok (m, n)
unfolding two_values
two_are a b m n first second =
    ap (λ r. r >>= λ x. value_of b >>= λ y. Ok (x, y)) first
    ∙ ap (λ r. r >>= λ y. Ok (m, y)) second

pub of_two : (name : MoveWord) (make : ℕ → ℕ → CellMove) (words : List (List ℕ)) (m n : ℕ) (middle behind : List ℕ) → ((ws : List (List ℕ)) → named_move_of name ws ≡ (two_values ws >>= λ v. Ok (make v.0 v.1))) → IsValue words m middle → IsGiven (words_of middle) n behind → IsMove name words (make m n) behind
of_two name make words m n middle behind means is gives = record {
  operands = is.first ∷ codes "gives" ∷ gives.first ∷ [];
  are = is.are ∙ ap (λ ws. is.first ∷ ws) gives.are;
  say = means (is.first ∷ codes "gives" ∷ gives.first ∷ []) ∙ ap (λ r. r >>= λ v. Ok (make v.0 v.1)) (two_are is.first gives.first m n is.says gives.says);
  unsigned = one_unsigned is.first (codes "gives" ∷ gives.first ∷ []) (value_unsigned is.first m is.says) (one_unsigned gives.first [] (value_unsigned gives.first n gives.says) refl);
}

-- `EXPECTED NEW gives OLD`
cas_are : (a b c : List ℕ) (l m n : ℕ) → value_of a ≡ Ok l → value_of b ≡ Ok m → value_of c ≡ Ok n → cas_values (a ∷ b ∷ codes "gives" ∷ c ∷ []) ≡ Ok (l, m, n)
unfolding cas_values
cas_are a b c l m n first second third =
    ap (λ r. r >>= λ x. value_of b >>= λ y. value_of c >>= λ z. Ok (x, y, z)) first
    ∙ ap (λ r. r >>= λ y. value_of c >>= λ z. Ok (l, y, z)) second
    ∙ ap (λ r. r >>= λ z. Ok (l, m, z)) third

pub of_cas : (words : List (List ℕ)) (l m n : ℕ) (inner middle behind : List ℕ) → IsValue words l inner → IsValue (words_of inner) m middle → IsGiven (words_of middle) n behind → IsMove word.Cas words (move.Cas l m n) behind
of_cas words l m n inner middle behind is next gives = record {
  operands = is.first ∷ next.first ∷ codes "gives" ∷ gives.first ∷ [];
  are = is.are ∙ ap (λ ws. is.first ∷ ws) next.are ∙ ap (λ ws. is.first ∷ next.first ∷ ws) gives.are;
  say = ap (λ r. r >>= λ v. Ok (move.Cas v.0 v.1 v.2)) (cas_are is.first next.first gives.first l m n is.says next.says gives.says);
  unsigned = one_unsigned is.first (next.first ∷ codes "gives" ∷ gives.first ∷ []) (value_unsigned is.first l is.says) (one_unsigned next.first (codes "gives" ∷ gives.first ∷ []) (value_unsigned next.first m next.says) (one_unsigned gives.first [] (value_unsigned gives.first n gives.says) refl));
}

-- a cell, the key word of a move, and its operands
pub access_is : (registers : List TraceRegister) (place name : List ℕ) (words : List (List ℕ)) (rest behind : List ℕ) (cell : Cell) (m : MoveWord) (how : CellMove) → is_sign place ≡ false → cell_from 0 registers place ≡ Ok cell → words ≡ name ∷ words_of rest → move_word_of name ≡ Some m → IsMove m (words_of rest) how behind
    → IsAccess registers (place ∷ words) (record { cell = cell; how = how }) behind
access_is registers place name words rest behind cell m how plain found are named is = record {
  part = place ∷ name ∷ is.operands;
  are = ap (λ ws. place ∷ ws) are ∙ ap (λ ws. place ∷ name ∷ ws) is.are;
  say =
      ap (λ r. both r (move_of (name ∷ is.operands)) >>= made) found
      ∙ ap (λ o. both (Ok cell) (known o >>= λ m. named_move_of m is.operands) >>= made) named
      ∙ ap (λ r. both (Ok cell) r >>= made) is.say;
  unsigned = one_unsigned place (name ∷ is.operands) plain (one_unsigned name is.operands (move_unsigned name m named) is.unsigned);
}
  where
    made : Cell × CellMove → Result (Option CellAccess) FaultKind
    made read = Ok (Some (record { cell = read.0; how = read.1 }))

-- the outcome of reading the marks in words
pub record AreRead (words : List (List ℕ)) (all : Result (List LockMark) FaultKind) : Type 0 where
  pub parts : List (List (List ℕ))
  pub are : parts_of words ≡ [] ∷ parts
  pub say : marks_read 0 parts (Ok []) ≡ all

-- one more mark after its sign
pub one_mark : (words behind : List (List ℕ)) (sign name : List ℕ) (mark : LockMark) (marks : List LockMark) (all : Result (List LockMark) FaultKind) (parts : List (List (List ℕ)))
    → words ≡ sign ∷ name ∷ behind → is_sign sign ≡ true → mark_word_of name ≡ Some mark → length marks < 4 → parts_of behind ≡ [] ∷ parts → marks_read (length marks + 1) parts (Ok (marks ++ mark ∷ [])) ≡ all
    → (parts_of words ≡ [] ∷ (name ∷ []) ∷ parts) × (marks_read (length marks) ((name ∷ []) ∷ parts) (Ok marks) ≡ all)
one_mark words behind sign name mark marks all parts are signed named few cut read =
    let plain : is_sign name ≡ false = mark_unsigned name mark named in
    let room : nat_lt (length marks) 4 ≡ true = grind (arith, nat_tests) in (
      ap parts_of are
          ∙ ap (λ b. cond b ([] ∷ parts_of (name ∷ behind)) (onto_first sign (parts_of (name ∷ behind)))) signed
          ∙ ap (λ b. [] ∷ cond b ([] ∷ parts_of behind) (onto_first name (parts_of behind))) plain
          ∙ ap (λ ps. [] ∷ onto_first name ps) cut,
      ap (λ o. marks_read (length marks + 1) parts (with_mark (length marks) (Ok marks) (known o >>= λ m. counted 0 [] >>= λ counts. Ok m))) named
          ∙ ap (λ b. marks_read (length marks + 1) parts (both (both (Ok marks) (Ok mark)) (fault_if (not b) Words) >>= λ (read : (List LockMark × LockMark) × Unit {0}). Ok (read.0.0 ++ read.0.1 ∷ []))) room
          ∙ read,
    )

-- a process and marks
abbrev entry : ℕ → Option CellAccess → List LockMark → TraceEntry
entry process access marks = record { process = process; access = access; marks = marks }

digit_first : (w : List ℕ) (n : ℕ) → number_at 255 w ≡ Ok n → begins_with_digit w ≡ true
digit_first [] n is = absurd (cc)
digit_first (b ∷ bs) n is = by (is_ascii_digit b) refl is
  where
    by : (d : Bool) → is_ascii_digit b ≡ d → ok_or (if (d && are_digits bs) && (not (b == 48) || (length bs == 0)) && nat_le (digits_value 10 (b ∷ bs)) 255 then Some (digits_value 10 (b ∷ bs)) else None) Number ≡ Ok n → is_ascii_digit b ≡ true
    by true digit is = digit
    by false digit is = absurd (cc)

-- words that are an entry: a process, then the part of an access, which may be empty, and marks
entry_by_parts : (registers : List TraceRegister) (first second : List ℕ) (later part : List (List ℕ)) (parts : List (List (List ℕ))) (process : ℕ) (access : Option CellAccess) (marks : List LockMark)
    → number_at 255 first ≡ Ok process → parts_of (second ∷ later) ≡ part ∷ parts → access_of registers part ≡ Ok access → marks_read 0 parts (Ok []) ≡ Ok marks
    → entry_of registers first (second ∷ later) ≡ Ok (entry process access marks)
entry_by_parts registers first second later part parts process access marks is cut says read =
    ap (entry_by registers first) cut
    ∙ ap (λ r. entry_with r (access_of registers part) (marks_read 0 parts (Ok []))) is
    ∙ ap (λ r. entry_with (Ok process) r (marks_read 0 parts (Ok []))) says
    ∙ ap (λ r. entry_with (Ok process) (Ok access) r) read

-- an entry without an access
pub marks_are : (registers : List TraceRegister) (words : List (List ℕ)) (first second : List ℕ) (behind : List ℕ) (later : List (List ℕ)) (process : ℕ) (marks : List LockMark)
    → words ≡ first ∷ words_of behind → number_at 255 first ≡ Ok process → words_of behind ≡ second ∷ later → AreMarks (words_of behind) marks → IsEntry registers words (entry process None marks)
marks_are registers words first second behind later process marks are is next signed = record {
  first = first;
  behind = second ∷ later;
  are = are ∙ ap (λ ws. first ∷ ws) next;
  digit = digit_first first process is;
  says = entry_by_parts registers first second later [] signed.parts process None marks is (ap parts_of (sym next) ∙ signed.are) refl signed.say;
}

-- an entry with an access
pub access_and_marks : (registers : List TraceRegister) (words : List (List ℕ)) (first second : List ℕ) (behind signs : List ℕ) (later : List (List ℕ)) (process : ℕ) (access : CellAccess) (marks : List LockMark)
    → words ≡ first ∷ words_of behind → number_at 255 first ≡ Ok process → words_of behind ≡ second ∷ later → IsAccess registers (second ∷ later) access signs → AreMarks (words_of signs) marks → IsEntry registers words (entry process (Some access) marks)
access_and_marks registers words first second behind signs later process access marks are is next has signed = record {
  first = first;
  behind = second ∷ later;
  are = are ∙ ap (λ ws. first ∷ ws) next;
  digit = digit_first first process is;
  says = entry_by_parts registers first second later has.part signed.parts process (Some access) marks is (ap parts_of has.are ∙ part_before has.part (words_of signs) signed.parts has.unsigned signed.are) has.say signed.say;
}

-- at least one word is read as an entry by its parts
pub some_words : (registers : List TraceRegister) (first : List ℕ) (ws : List (Bor (List ℕ))) → (length ws == 0) ≡ false → entry_of registers first (texts ws) ≡ entry_by registers first (parts_of (texts ws))
some_words registers first [] some = absurd (cc)
some_words registers first (w ∷ ws) some = refl
