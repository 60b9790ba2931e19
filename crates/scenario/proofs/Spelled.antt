-- Numbers, names and values as they are printed, read again.
use Rattle.std.proofs.Common.{◌≡◌, ℕ, ℤ, pos, negsuc, zero, suc, ◌<◌, ◌≤◌, ◌^◌, ◌==◌, ◌&&◌, not, nat_le, nat_lt, true, false, cond, if◌then◌else◌, List, [], ◌∷◌, length, get_or, slice_index, drop, neg_ℤ, ◌||◌, Some, None, Ok, Err, refl, ap, ◌∙◌, arith}
use Rattle.std.proofs.lemmas.Bool.Decides.{nat_tests}
use Rattle.std.proofs.lemmas.Fmt.{digits_decimal, digits_value-decimal, decimal_nonempty, decimal_digit, first_decimal, length-decimal-le}
use Rattle.std.specs.Char.{is_ascii_graphic, is_ascii_digit}
use Rattle.std.specs.Fmt.{decimal, signed_decimal}
use Rattle.std.specs.List.{list_all}
use Rattle.std.specs.Option.{ok_or}
use Rattle.std.specs.Str.Parse.{digits_value, signed_digits_value}
use Rattle.plain_store.specs.{Value, fits_i64, is_name, is_name_byte, is_value, value_text}
use Rattle.plain_store.specs.declared.commands.Value.TheVariants.{Count, Text}
use Rattle.scenario.specs.{are_digits, counter, in_i64, integer_of, is_numeral, is_signed_numeral, name_at, number_at, value_at}
use Rattle.files.specs.declared.faults.FaultKind.TheVariants.{Number, BadName, BadValue}
use Rattle.scenario.proofs.Numerals.{own}
use Rattle.scenario.proofs.Spaced.{is_word}

-- digits of which the first is above `0`
numeral_from : (ds : List ℕ) → are_digits ds ≡ true → 0 < length ds → 48 < get_or ds 0 0 → is_numeral ds ≡ true
numeral_from [] digits some high = absurd (omega arith)
numeral_from (b ∷ bs) digits some high =
    let other : (b == 48) ≡ false = grind (arith, nat_tests) in
    ap (λ t. t && (not (b == 48) || (length bs == 0))) digits ∙ ap (λ t. not t || (length bs == 0)) other

-- a number is printed as a numeral
pub decimal_numeral : (n : ℕ) → n < 2 ^ 64 → is_numeral (decimal n) ≡ true
decimal_numeral zero small = ap is_numeral (decimal_digit 0 (omega arith))
decimal_numeral (suc n) small = numeral_from (decimal (suc n)) (digits_decimal own (suc n) small) (decimal_nonempty (suc n) small) (first_decimal (suc n) (omega arith) small)

-- A number is read again.
pub number_again : (most n : ℕ) → n ≤ most → n < 2 ^ 64 → number_at most (decimal n) ≡ Ok n
number_again most n within small =
    let test : nat_le n most ≡ true = grind (arith, nat_tests) in
    ap (λ v. ok_or (if is_numeral (decimal n) && nat_le v most then Some v else None) Number) (digits_value-decimal own n small)
    ∙ ap (λ t. ok_or (if t && nat_le n most then Some n else None) Number) (decimal_numeral n small)
    ∙ ap (λ t. ok_or (if t then Some n else None) Number) test

-- the number that digits write has no sign
pub no_sign : (ds : List ℕ) → are_digits ds ≡ true → 0 < length ds → signed_digits_value 10 ds ≡ pos (digits_value 10 ds)
no_sign [] digits some = absurd (omega arith)
no_sign (b ∷ bs) digits some =
    let digit : is_ascii_digit b ≡ true = grind (arith, nat_tests) in
    let minus : (b == 45) ≡ false = grind (arith, nat_tests) in
    let plus : (b == 43) ≡ false = grind (arith, nat_tests) in
    ap (λ t. cond t (neg_ℤ (pos (digits_value 10 (cond t bs (drop (cond (b == 43) 1 0) (b ∷ bs)))))) (pos (digits_value 10 (cond t bs (drop (cond (b == 43) 1 0) (b ∷ bs)))))) minus
    ∙ ap (λ t. pos (digits_value 10 (drop (cond t 1 0) (b ∷ bs)))) plus

-- digits begin with no sign
unsigned : (ds : List ℕ) → is_numeral ds ≡ true → is_signed_numeral ds ≡ true
unsigned [] numeral = absurd (cc)
unsigned (b ∷ bs) numeral =
    let digit : is_ascii_digit b ≡ true = grind (arith, nat_tests) in
    let minus : (b == 45) ≡ false = grind (arith, nat_tests) in
    ap (λ t. if t then is_numeral bs && not (slice_index bs 0 == 48) else is_numeral (b ∷ bs)) minus ∙ numeral

-- the first of some digits is not `0`
not_zero : (ds : List ℕ) → 48 < get_or ds 0 0 → not (slice_index ds 0 == 48) ≡ true
not_zero [] high = absurd (omega arith)
not_zero (b ∷ bs) high = grind (arith, nat_tests)

-- A number with a sign is read again.
pub integer_again : (z : ℤ) → fits_i64 z ≡ true → integer_of (signed_decimal z) ≡ Some z
integer_again (pos n) fits =
    let small : n < 2 ^ 64 = grind (arith, nat_tests) in
    ap (λ t. if t then in_i64 (signed_digits_value 10 (decimal n)) else None) (unsigned (decimal n) (decimal_numeral n small))
    ∙ ap in_i64 (no_sign (decimal n) (digits_decimal own n small) (decimal_nonempty n small))
    ∙ ap (λ v. in_i64 (pos v)) (digits_value-decimal own n small)
    ∙ ap (λ t. if t then Some (pos n) else None) fits
integer_again (negsuc n) fits =
    let small : suc n < 2 ^ 64 = grind (arith, nat_tests) in
    ap (λ t. if t && not (slice_index (decimal (suc n)) 0 == 48) then in_i64 (signed_digits_value 10 (45 ∷ decimal (suc n))) else None) (decimal_numeral (suc n) small)
    ∙ ap (λ t. if t then in_i64 (signed_digits_value 10 (45 ∷ decimal (suc n))) else None) (not_zero (decimal (suc n)) (first_decimal (suc n) (omega arith) small))
    ∙ ap (λ v. in_i64 (neg_ℤ (pos v))) (digits_value-decimal own (suc n) small)
    ∙ ap (λ t. if t then Some (negsuc n) else None) fits

-- A name is read again,
pub name_again : (name : List ℕ) → is_name name ≡ true → name_at name ≡ Ok name
name_again name is = ap (λ t. if t then Ok name else Err BadName) is

-- A value is read again.
pub value_again : (v : Value) → is_value v ≡ true → value_at (value_text v) ≡ Ok v
value_again (Count z) fits = ap counter (integer_again z fits)
value_again (Text bytes) is = ap (λ t. if t then Ok (Text bytes) else Err BadValue) is

-- digits are printable
printable_digits : (ds : List ℕ) → are_digits ds ≡ true → list_all is_ascii_graphic ds ≡ true
printable_digits [] h = refl
printable_digits (b ∷ bs) h =
    let first : is_ascii_digit b ≡ true = grind (arith, nat_tests) in
    let graphic : is_ascii_graphic b ≡ true = grind (arith, nat_tests) in
    let rest : are_digits bs ≡ true = grind (arith, nat_tests) in
    ap (λ t. t && list_all is_ascii_graphic bs) graphic ∙ printable_digits bs rest

-- the bytes of a name are printable
printable_name : (bs : List ℕ) → list_all is_name_byte bs ≡ true → list_all is_ascii_graphic bs ≡ true
printable_name [] h = refl
printable_name (b ∷ bs) h =
    let first : is_name_byte b ≡ true = grind (arith, nat_tests) in
    let graphic : is_ascii_graphic b ≡ true = grind (arith, nat_tests) in
    let rest : list_all is_name_byte bs ≡ true = grind (arith, nat_tests) in
    ap (λ t. t && list_all is_ascii_graphic bs) graphic ∙ printable_name bs rest

-- a byte or more, all printable
word_from : (bs : List ℕ) → 0 < length bs → list_all is_ascii_graphic bs ≡ true → is_word bs ≡ true
word_from bs some all = let test : nat_lt 0 (length bs) ≡ true = grind (arith, nat_tests) in ap (λ t. t && list_all is_ascii_graphic bs) test ∙ all

-- Each of them is a word.
pub number_word : (n : ℕ) → n < 2 ^ 64 → is_word (decimal n) ≡ true
number_word n small = word_from (decimal n) (decimal_nonempty n small) (printable_digits (decimal n) (digits_decimal own n small))

pub integer_word : (z : ℤ) → fits_i64 z ≡ true → is_word (signed_decimal z) ≡ true
integer_word (pos n) fits = number_word n (grind (arith, nat_tests))
integer_word (negsuc n) fits = let small : suc n < 2 ^ 64 = grind (arith, nat_tests) in word_from (45 ∷ decimal (suc n)) (omega arith) (printable_digits (decimal (suc n)) (digits_decimal own (suc n) small))

pub name_word : (name : List ℕ) → is_name name ≡ true → is_word name ≡ true
name_word name is =
    let some : 0 < length name = grind (arith, nat_tests) in
    let all : list_all is_name_byte name ≡ true = grind (arith, nat_tests) in
    word_from name some (printable_name name all)

-- the printable half of a word
printable : (word : List ℕ) → is_word word ≡ true → list_all is_ascii_graphic word ≡ true
printable word is = grind (arith, nat_tests)

pub value_word : (v : Value) → is_value v ≡ true → is_word (value_text v) ≡ true
value_word (Count z) fits = word_from (99 ∷ 58 ∷ signed_decimal z) (omega arith) (printable (signed_decimal z) (integer_word z fits))
value_word (Text bytes) is = grind (arith, nat_tests)

-- The greatest lengths of these words.
pub number_short : (n : ℕ) → n < 2 ^ 64 → length (decimal n) ≤ 20
number_short n small = length-decimal-le 20 n (omega arith) (omega arith) small

pub integer_short : (z : ℤ) → fits_i64 z ≡ true → length (signed_decimal z) ≤ 21
integer_short (pos n) fits = let small : n < 2 ^ 64 = grind (arith, nat_tests) in let short = number_short n small in omega (arith, short)
integer_short (negsuc n) fits = let small : suc n < 2 ^ 64 = grind (arith, nat_tests) in let short = number_short (suc n) small in omega (arith, short)

pub name_short : (name : List ℕ) → is_name name ≡ true → length name ≤ 8
name_short name is = grind (arith, nat_tests)

pub value_short : (v : Value) → is_value v ≡ true → length (value_text v) ≤ 23
value_short (Count z) fits = let short = integer_short z fits in omega (arith, short)
value_short (Text bytes) is = let short : length bytes ≤ 12 = grind (arith, nat_tests) in omega (arith, short)
