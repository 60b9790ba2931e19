-- Parsing a numeral.
use Rattle.std.specs.Int.RustNames.{FitsSigned}
use Rattle.std.proofs.lemmas.Str.Ascii.{IsAscii-cons}
use Rattle.plain_store.specs.{fits_i64}
use Rattle.std.proofs.Common.{◌==◌, drop, take, get_or, negsuc, slice_index, ◌≡◌, ℕ, ℤ, pos, ◌+◌, ◌-◌, ◌*◌, ◌<◌, ◌≤◌, ◌^◌, Bool, true, false, not, cond, nat_le, List, [], ◌∷◌, ◌&&◌, length, Some, None, Result, Ok, Err, refl, ap, sym, ◌∙◌, arith, rules, if◌then◌else◌, w64}
use Rattle.std.specs.Char.{is_ascii_digit, digit_value}
use Rattle.std.specs.Int.{IsInRange}
use Rattle.std.proofs.lemmas.Grind.{get_or_default_zero}
use Rattle.std.proofs.lemmas.Int.Digits.{digits_value_more}
use Rattle.std.proofs.lemmas.List.Folds.{list_all_at}
use Rattle.std.proofs.lemmas.Str.{digit_value_digit}
use Rattle.std.specs.Result.{result_ok}
use Rattle.std.specs.Str.{IsAscii}
use Rattle.std.specs.Str.Parse.{IsNumeral, without_leading_sign, ParsesSigned, digits_value, signed_digits_value}
use Rattle.std.proofs.lemmas.Str.Parse.{IsNumeralModel, numerals_by_value, digits_value-take-le}
use Rattle.std.proofs.lemmas.Bool.Decides.{nat_tests}
use Rattle.std.proofs.lemmas.Fmt.{IsAscii-from_digits}
use Rattle.scenario.specs.{are_digits, is_numeral, number_up_to, is_signed_numeral, in_i64, integer_of}

-- std's words for digits and their value
pub own : IsNumeralModel (λ ds. are_digits ds ≡ true) (digits_value 10)
own = numerals_by_value _ (search rules)

-- a numeral has a digit, and only digits
pub numeral_is : (word : List ℕ) → is_numeral word ≡ true → (are_digits word ≡ true) × (0 < length word)
numeral_is [] h = absurd (cc)
numeral_is (b ∷ bs) h = (grind (arith, nat_tests), omega arith)

-- a digit among digits
pub digit_in : (word : List ℕ) (k b : ℕ) → are_digits word ≡ true → k < length word → b ≡ get_or word k b → is_ascii_digit b ≡ true
digit_in word k b all within is = by (is_ascii_digit (get_or word k b)) refl
  where
    by : (t : Bool) → is_ascii_digit (get_or word k b) ≡ t → is_ascii_digit b ≡ true
    by true digit = ap is_ascii_digit is ∙ digit
    by false digit = let none : are_digits word ≡ false = list_all_at is_ascii_digit word k b within digit in absurd (cc)

-- the digits up to a position, and the next digit
pub value_more : (word : List ℕ) (k b v w : ℕ) → w ≡ v * 10 + (b - 48) → v ≡ digits_value 10 (take k word) → are_digits word ≡ true → k < length word → b ≡ get_or word k b → w ≡ digits_value 10 (take (k + 1) word)
value_more word k b v w more so_far all within is =
    let digit : is_ascii_digit b ≡ true = digit_in word k b all within is in
    let range : IsInRange 48 57 b = grind (arith, nat_tests) in
    let value : digit_value b + 48 ≡ b = digit_value_digit b range in
    let here : get_or word k 0 ≡ b = sym (get_or_default_zero word k b within) ∙ sym is in
    more ∙ ap (λ u. u * 10 + (b - 48)) so_far ∙ sym (digits_value_more 10 word k within ∙ ap (λ c. digits_value 10 (take k word) * 10 + digit_value c) here ∙ ap (λ u. digits_value 10 (take k word) * 10 + u) (omega (arith, value)))

-- all digits write no less than those up to a position
pub value_beyond : (word : List ℕ) (k b v n : ℕ) → n ≤ v * 10 + (b - 48) → v ≡ digits_value 10 (take k word) → are_digits word ≡ true → k < length word → b ≡ get_or word k b → n ≤ digits_value 10 word
value_beyond word k b v n least so_far all within is =
    let here = value_more word k b v (v * 10 + (b - 48)) refl so_far all within is in
    let all : digits_value 10 (take (k + 1) word) ≤ digits_value 10 word = digits_value-take-le 10 word (k + 1) (omega arith) in
    omega (arith, least, here, all)

-- the number is that of the digits, up to the bound
pub number_is : (word : List ℕ) (most n : ℕ) → is_numeral word ≡ true → n ≡ digits_value 10 word → (if nat_le n most then Some n else None) ≡ number_up_to most word
number_is word most n numeral is =
    ap (λ m. if nat_le m most then Some m else None) is ∙ sym (ap (λ b. if b && nat_le (digits_value 10 word) most then Some (digits_value 10 word) else None) numeral)

-- a numeral of more than 64 bits has no value
pub number_is_none : (word : List ℕ) (most : ℕ) → is_numeral word ≡ true → most < 2 ^ 64 → 2 ^ 64 ≤ digits_value 10 word → None ≡ number_up_to most word
number_is_none word most numeral small large =
    let above : nat_le (digits_value 10 word) most ≡ false = grind (arith, nat_tests) in
    sym (ap (λ b. if b && nat_le (digits_value 10 word) most then Some (digits_value 10 word) else None) numeral ∙ ap (λ b. if b then Some (digits_value 10 word) else None) above)

-- a numeral is ASCII
pub numeral_is_ascii : (word : List ℕ) → is_numeral word ≡ true → IsAscii word
numeral_is_ascii word numeral = IsAscii-from_digits word (own.to word (numeral_is word numeral).0)

-- a numeral follows its sign
pub unsigned_is : (word : List ℕ) → is_signed_numeral word ≡ true → IsNumeral 10 (without_leading_sign word)
unsigned_is [] numeral = absurd (cc)
unsigned_is (b ∷ bs) numeral = by (b == 45) numeral
  where
    no_plus : (c : Bool) → (b == 43) ≡ c → is_numeral (b ∷ bs) ≡ true → IsNumeral 10 (drop (cond c 1 0) (b ∷ bs))
    no_plus true plus whole = let digit : is_ascii_digit b ≡ true = grind (arith, nat_tests) in absurd (grind (arith, nat_tests))
    no_plus false plus whole = ((numeral_is (b ∷ bs) whole).1, own.to (b ∷ bs) (numeral_is (b ∷ bs) whole).0)

    by : (c : Bool) → (if c then is_numeral bs && not (slice_index bs 0 == 48) else is_numeral (b ∷ bs)) ≡ true → IsNumeral 10 (cond c bs (drop (cond (b == 43) 1 0) (b ∷ bs)))
    by true minus = let tail : is_numeral bs ≡ true = grind (arith, nat_tests) in ((numeral_is bs tail).1, own.to bs (numeral_is bs tail).0)
    by false plain = no_plus (b == 43) refl plain

-- the test for 64 bits
fits_is : (z : ℤ) → FitsSigned w64 z → fits_i64 z ≡ true
fits_is (pos n) fits = let small : n < 2 ^ 63 = fits.sfits in grind (arith, nat_tests)
fits_is (negsuc n) fits = let small : n < 2 ^ 63 = fits.sfits in grind (arith, nat_tests)

fits_from : (z : ℤ) → fits_i64 z ≡ true → FitsSigned w64 z
fits_from (pos n) test = let small : n < 2 ^ 63 = grind (arith, nat_tests) in record { sfits = small }
fits_from (negsuc n) test = let small : n < 2 ^ 63 = grind (arith, nat_tests) in record { sfits = small }

-- the number is the result of `parse`
pub integer_parsed : {E : Type 0} (word : List ℕ) (r : Result ℤ E) → is_signed_numeral word ≡ true → ParsesSigned w64 10 word r → result_ok r ≡ integer_of word
integer_parsed word (Ok z) numeral parsed =
    sym (ap (λ b. if b then in_i64 (signed_digits_value 10 word) else None) numeral
    ∙ ap (λ b. if b then Some (signed_digits_value 10 word) else None) (fits_is (signed_digits_value 10 word) parsed.0.1)
    ∙ ap Some (sym parsed.1))
integer_parsed word (Err e) numeral parsed = by (fits_i64 (signed_digits_value 10 word)) refl
  where
    by : (b : Bool) → fits_i64 (signed_digits_value 10 word) ≡ b → None ≡ integer_of word
    by true fits = absurd (parsed (unsigned_is word numeral, fits_from (signed_digits_value 10 word) fits))
    by false fits = sym (ap (λ b. if b then in_i64 (signed_digits_value 10 word) else None) numeral ∙ ap (λ b. if b then Some (signed_digits_value 10 word) else None) fits)

-- a sign is ASCII too
pub signed_is_ascii : (word : List ℕ) → is_signed_numeral word ≡ true → IsAscii word
signed_is_ascii [] numeral = absurd (cc)
signed_is_ascii (b ∷ bs) numeral = by (b == 45) refl numeral
  where
    by : (c : Bool) → (b == 45) ≡ c → (if c then is_numeral bs && not (slice_index bs 0 == 48) else is_numeral (b ∷ bs)) ≡ true → IsAscii (b ∷ bs)
    by true minus h = let tail : is_numeral bs ≡ true = grind (arith, nat_tests) in let low : b < 128 = grind (arith, nat_tests) in IsAscii-cons b bs low (numeral_is_ascii bs tail)
    by false minus h = numeral_is_ascii (b ∷ bs) h
