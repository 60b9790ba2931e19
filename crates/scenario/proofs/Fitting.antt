-- Reading has no fault exactly if the words fit: step by step, and by the rows of a table.
use Rattle.std.proofs.Common.{◌≡◌, ℕ, ◌==◌, not, ◌&&◌, Bool, true, false, cond, if◌then◌else◌, List, [], ◌∷◌, length, Option, Some, None, Result, Ok, Err, refl, ap, sym, subst, ◌∙◌, arith}
use Rattle.std.proofs.lemmas.Bool.{and_right}
use Rattle.std.proofs.lemmas.Bool.Decides.{nat_tests}
use Rattle.std.proofs.lemmas.Slice.Eq.{bytes_eq-Decides}
use Rattle.std.specs.Map.{lookup}
use Rattle.std.specs.Option.{is_none}
use Rattle.std.specs.Result.{is_ok}
use Rattle.std.specs.Str.{bytes_eq}
use Rattle.files.specs.{FaultKind, counted, fault_if, ◌>>=◌}
use Rattle.files.specs.declared.faults.FaultKind.TheVariants.{Words}
use Rattle.scenario.specs.{Operand, are_operands, fault_of, fits_form, has_row, is_ending, is_operand, is_word_of}

pub and_true : (b : Bool) → (b && true) ≡ b
and_true true = refl
and_true false = refl

-- one step more, whose outcome does not depend on the value that was read before
pub ok_then : {A B : Type 0} (r : Result A FaultKind) (f : A → Result B FaultKind) (b : Bool) → ((x : A) → is_ok (f x) ≡ b) → is_ok (r >>= f) ≡ (is_none (fault_of r) && b)
ok_then (Ok x) f b same = same x
ok_then (Err fault) f b same = refl

-- one step more, whose outcome depends on another condition
pub ok_and : {A B : Type 0} (r : Result A FaultKind) (f : A → Result B FaultKind) (c : Bool) → ((x : A) → is_ok (f x) ≡ c) → is_ok (r >>= f) ≡ (c && is_ok r)
ok_and (Ok x) f c same = same x ∙ sym (and_true c)
ok_and (Err fault) f c same = sym (and_right c false refl)

-- one step more, which cannot fail
pub ok_last : {A B : Type 0} (r : Result A FaultKind) (f : A → Result B FaultKind) → ((x : A) → is_ok (f x) ≡ true) → is_ok (r >>= f) ≡ is_ok r
ok_last (Ok x) f passes = passes x
ok_last (Err fault) f passes = refl

-- a value that was read has a fault or not
pub is_read : {A : Type 0} (r : Result A FaultKind) → is_ok r ≡ (is_none (fault_of r) && true)
is_read (Ok x) = refl
is_read (Err fault) = refl

-- words are counted first
pub ok_counted : {B : Type 0} (n : ℕ) (ws : List (List ℕ)) (f : Unit {0} → Result B FaultKind) (b : Bool) → (length ws ≡ n → is_ok (f tt) ≡ b) → ((length ws == n) ≡ false → b ≡ false) → is_ok (counted n ws >>= f) ≡ b
ok_counted n ws f b same other = by (length ws == n) refl
  where
    by : (t : Bool) → (length ws == n) ≡ t → is_ok (fault_if (not t) Words >>= f) ≡ b
    by true is = let n_are : length ws ≡ n = grind (arith, nat_tests) in same n_are
    by false is = sym (other is)

-- a number of words other than that of the operands does not fit
pub other_count : (version : ℕ) (os : List Operand) (ws : List (List ℕ)) → (length ws == length os) ≡ false → are_operands version os ws ≡ false
other_count version [] [] differ = absurd (cc)
other_count version [] (w ∷ ws) differ = refl
other_count version (o ∷ os) [] differ = refl
other_count version (o ∷ os) (w ∷ ws) differ = and_right (is_operand version o w) (are_operands version os ws) (let fewer : (length ws == length os) ≡ false = grind (arith, nat_tests) in other_count version os ws fewer)

-- operands alone
pub ok_operands : {B : Type 0} (version : ℕ) (os : List Operand) (ws : List (List ℕ)) (f : Unit {0} → Result B FaultKind) → (length ws ≡ length os → is_ok (f tt) ≡ are_operands version os ws) → is_ok (counted (length os) ws >>= f) ≡ are_operands version os ws
ok_operands version os ws f same = ok_counted (length os) ws f (are_operands version os ws) same (other_count version os ws)

pub fits_alone : (version : ℕ) (os : List Operand) (ws : List (List ℕ)) → are_operands version os ws ≡ fits_form version os [] ws
fits_alone version [] [] = refl
fits_alone version [] (w ∷ ws) = refl
fits_alone version (o ∷ os) [] = refl
fits_alone version (o ∷ os) (w ∷ ws) = ap (λ b. is_operand version o w && b) (fits_alone version os ws)

-- the rows of a table are read exactly if the rows of the table of forms fit, and rows that the table of forms lacks are faults
abbrev pub Agree : {M F : Type 0} → ℕ → (F → List (List ℕ) → Bool) → (Option M → Bool) → List (List ℕ) → List (List ℕ × M) → List (List ℕ × F) → Type 0
Agree version fits reads words [] [] = Unit {0}
Agree version fits reads words [] (row ∷ rows) = ⊥
Agree version fits reads words (entry ∷ table) [] = (reads (Some entry.1) ≡ false) × Agree version fits reads words table []
Agree version fits reads words (entry ∷ table) (row ∷ rows) =
    (entry.0 ≡ row.0) × (reads (Some entry.1) ≡ (is_word_of version row.0 && fits row.1 words)) × Agree version fits reads words table rows

-- the first word is read exactly if it has a row that fits
pub by_rows : {M F : Type 0} (version : ℕ) (fits : F → List (List ℕ) → Bool) (reads : Option M → Bool) (first : List ℕ) (words : List (List ℕ)) → reads None ≡ false
    → (table : List (List ℕ × M)) (rows : List (List ℕ × F)) → Agree version fits reads words table rows → reads (lookup (bytes_eq first) table) ≡ has_row version fits rows first words
by_rows version fits reads first words none [] [] agree = none
by_rows version fits reads first words none [] (row ∷ rows) agree = absurd agree
by_rows version fits reads first words none (entry ∷ table) [] agree =
    elim (bytes_eq first entry.0) as (λ b. reads (cond b (Some entry.1) (lookup (bytes_eq first) table)) ≡ false) [ true ↦ agree.0 | false ↦ by_rows version fits reads first words none table [] agree.1 ]
by_rows {M} version fits reads first words none (entry ∷ table) (row ∷ rows) agree =
    ap (λ key. reads (cond (bytes_eq first key) (Some entry.1) (lookup (bytes_eq first) table))) agree.0
    ∙ elim (bytes_eq first row.0) as (λ b. reads (cond b (Some entry.1) (lookup (bytes_eq first) table)) ≡ (if b then is_word_of version row.0 && fits row.1 words else has_row version fits rows first words))
    [ true ↦ agree.1 | false ↦ by_rows version fits reads first words none table rows agree.2 ]

-- a fact about a word, and about any other one, holds for each word
pub if_word : (first word : List ℕ) (P : List ℕ → Type 0) → P word → (bytes_eq first word ≡ false → P first) → P first
if_word first word P is_it other = by (bytes_eq first word) refl
  where
    by : (b : Bool) → bytes_eq first word ≡ b → P first
    by true is = subst P (sym ((bytes_eq-Decides first word).0 is)) is_it
    by false is = other is

-- a word other than the key words of a table
abbrev pub IsOther : {M : Type 0} → List ℕ → List (List ℕ × M) → Type 0
IsOther first [] = Unit {0}
IsOther first (entry ∷ table) = (bytes_eq first entry.0 ≡ false) × IsOther first table

pub no_entry : {M : Type 0} (first : List ℕ) (table : List (List ℕ × M)) → IsOther first table → lookup (bytes_eq first) table ≡ None
no_entry first [] other = refl
no_entry first (entry ∷ table) other = ap (λ b. cond b (Some entry.1) (lookup (bytes_eq first) table)) other.0 ∙ no_entry first table other.1

pub no_row : {F : Type 0} (version : ℕ) (fits : F → List (List ℕ) → Bool) (rows : List (List ℕ × F)) (first : List ℕ) (words : List (List ℕ)) → IsOther first rows → has_row version fits rows first words ≡ false
no_row version fits [] first words other = refl
no_row version fits (row ∷ rows) first words other = ap (λ b. if b then is_word_of version row.0 && fits row.1 words else has_row version fits rows first words) other.0 ∙ no_row version fits rows first words other.1

-- rows that fit under a condition that depends on no row
pub row_and : {F : Type 0} (version : ℕ) (fits : F → List (List ℕ) → Bool) (c : Bool) (rows : List (List ℕ × F)) (first : List ℕ) (words : List (List ℕ)) → has_row version (λ r ws. c && fits r ws) rows first words ≡ (c && has_row version fits rows first words)
row_and version fits true rows first words = refl
row_and version fits false [] first words = refl
row_and version fits false (row ∷ rows) first words =
    elim (bytes_eq first row.0) as (λ b. (if b then is_word_of version row.0 && false else has_row version (λ r ws. false && fits r ws) rows first words) ≡ false)
    [ true ↦ and_right (is_word_of version row.0) false refl | false ↦ row_and version fits false rows first words ]
