-- The words of a line are exactly those that are printed for its meaning.
use Rattle.std.proofs.Common.{◌≡◌, ℕ, ℤ, pos, negsuc, neg_ℤ, zero, suc, ◌<◌, ◌^◌, ◌==◌, ◌&&◌, not, nat_le, Bool, true, false, cond, if◌then◌else◌, List, [], ◌∷◌, ◌++◌, length, get_or, slice_index, codes, Option, Some, None, Ok, Err, refl, ap, sym, ◌∙◌, arith}
use Rattle.std.proofs.lemmas.Bool.{and_parts}
use Rattle.std.proofs.lemmas.Bool.Decides.{nat_tests}
use Rattle.std.proofs.lemmas.Fmt.{decimal-digits_value, decimal_digit}
use Rattle.std.proofs.lemmas.Slice.Eq.{bytes_eq-Decides}
use Rattle.std.specs.Fmt.{decimal, signed_decimal}
use Rattle.std.specs.List.{list_all}
use Rattle.std.specs.Map.{lookup}
use Rattle.std.specs.Option.{ok_or}
use Rattle.std.specs.Str.{bytes_eq}
use Rattle.std.specs.Str.Parse.{digits_value, signed_digits_value}
use Rattle.plain_store.specs.{Value, fits_i64, is_name, is_text, is_value, value_text}
use Rattle.plain_store.specs.declared.commands.Value.TheVariants.{Count, Text}
use Rattle.files.specs.{◌>>=◌, known}
use Rattle.scenario.specs.{Target, Verb, counter, in_i64, integer_at, integer_of, is_numeral, is_signed_numeral, is_verb_of, name_at, number_at, target_of, target_word, targets, value_at, verb_at, verb_of, verbs}
use Rattle.files.specs.declared.faults.FaultKind.TheVariants.{Number, BadName, BadValue, Unknown}
use Rattle.scenario.specs.declared.keywords.Verb.TheVariants as verb
use Rattle.scenario.proofs.Numerals.{own, numeral_is}
use Rattle.scenario.proofs.Spelled.{no_sign}

-- a numeral that begins with `0` is `0`
leading : (w : List ℕ) → is_numeral w ≡ true → get_or w 0 0 ≡ 48 → length w ≡ 1
leading [] h zero_first = absurd (cc)
leading (b ∷ bs) h zero_first = let none : (length bs == 0) ≡ true = grind (arith, nat_tests) in grind (arith, nat_tests)

-- a numeral is the text that is printed for its number
numeral_spelled : (w : List ℕ) → is_numeral w ≡ true → digits_value 10 w < 2 ^ 64 → w ≡ decimal (digits_value 10 w)
numeral_spelled w numeral small = sym (decimal-digits_value own w (numeral_is w numeral).0 (numeral_is w numeral).1 (leading w numeral) small)

-- a number that was read is in its range
pub number_spelled : (most : ℕ) (w : List ℕ) (n : ℕ) → most < 2 ^ 64 → number_at most w ≡ Ok n → (w ≡ decimal n) × (nat_le n most ≡ true)
number_spelled most w n wide read = by (is_numeral w && nat_le (digits_value 10 w) most) refl read
  where
    by : (b : Bool) → (is_numeral w && nat_le (digits_value 10 w) most) ≡ b → ok_or (if b then Some (digits_value 10 w) else None) Number ≡ Ok n → (w ≡ decimal n) × (nat_le n most ≡ true)
    by true both read =
        let parts = and_parts (is_numeral w) (nat_le (digits_value 10 w) most) both in
        let within : nat_le (digits_value 10 w) most ≡ true = parts.1 in
        let small : digits_value 10 w < 2 ^ 64 = grind (arith, nat_tests) in
        let same : digits_value 10 w ≡ n = cc in
        (numeral_spelled w parts.0 small ∙ ap decimal same, ap (λ v. nat_le v most) (sym same) ∙ within)
    by false both read = absurd (cc)

-- a number of 64 bits
in_range : (y z : ℤ) → in_i64 y ≡ Some z → (y ≡ z) × (fits_i64 y ≡ true)
in_range y z is = by (fits_i64 y) is
  where
    by : (b : Bool) → (if b then Some y else None) ≡ Some z → (y ≡ z) × (b ≡ true)
    by true is = (cc, refl)
    by false is = absurd (cc)

-- a number after a minus
minus_spelled : (bs : List ℕ) (z : ℤ) (v : ℕ) → digits_value 10 bs ≡ v → is_numeral bs ≡ true → not (slice_index bs 0 == 48) ≡ true → in_i64 (neg_ℤ (pos v)) ≡ Some z → 45 ∷ bs ≡ signed_decimal z
minus_spelled bs z zero value numeral first is =
    let alone : bs ≡ 48 ∷ [] = numeral_spelled bs numeral (omega (arith, value)) ∙ ap decimal value ∙ decimal_digit 0 (omega arith) in
    let never : not (slice_index (48 ∷ []) 0 == 48) ≡ true = ap (λ ds. not (slice_index ds 0 == 48)) (sym alone) ∙ first in absurd (cc)
minus_spelled bs z (suc m) value numeral first is =
    let fits : fits_i64 (negsuc m) ≡ true = (in_range (negsuc m) z is).1 in
    let low : m < 2 ^ 63 = grind (arith, nat_tests) in
    ap (λ ds. 45 ∷ ds) (numeral_spelled bs numeral (omega (arith, value, low)) ∙ ap decimal value) ∙ ap signed_decimal (in_range (negsuc m) z is).0

plain_spelled : (w : List ℕ) (z : ℤ) → is_numeral w ≡ true → in_i64 (signed_digits_value 10 w) ≡ Some z → w ≡ signed_decimal z
plain_spelled w z numeral is =
    let value : signed_digits_value 10 w ≡ pos (digits_value 10 w) = no_sign w (numeral_is w numeral).0 (numeral_is w numeral).1 in
    let known : in_i64 (pos (digits_value 10 w)) ≡ Some z = sym (ap in_i64 value) ∙ is in
    let fits : fits_i64 (pos (digits_value 10 w)) ≡ true = (in_range (pos (digits_value 10 w)) z known).1 in
    let small : digits_value 10 w < 2 ^ 64 = grind (arith, nat_tests) in
    numeral_spelled w numeral small ∙ ap signed_decimal (in_range (pos (digits_value 10 w)) z known).0

pub integer_spelled : (w : List ℕ) (z : ℤ) → integer_of w ≡ Some z → w ≡ signed_decimal z
integer_spelled [] z read = absurd (cc)
integer_spelled (b ∷ bs) z read = by (b == 45) refl (is_signed_numeral (b ∷ bs)) refl read
  where
    by : (t : Bool) → (b == 45) ≡ t → (u : Bool) → is_signed_numeral (b ∷ bs) ≡ u → (if u then in_i64 (signed_digits_value 10 (b ∷ bs)) else None) ≡ Some z → b ∷ bs ≡ signed_decimal z
    by true minus true numeral read =
        let is : b ≡ 45 = grind (arith, nat_tests) in
        let tests : is_numeral bs && not (slice_index bs 0 == 48) ≡ true = sym (ap (λ t. if t then is_numeral bs && not (slice_index bs 0 == 48) else is_numeral (b ∷ bs)) minus) ∙ numeral in
        ap (λ c. c ∷ bs) is ∙ minus_spelled bs z (digits_value 10 bs) refl (and_parts (is_numeral bs) (not (slice_index bs 0 == 48)) tests).0 (and_parts (is_numeral bs) (not (slice_index bs 0 == 48)) tests).1 (ap (λ c. in_i64 (signed_digits_value 10 (c ∷ bs))) (sym is) ∙ read)
    by false minus true numeral read = plain_spelled (b ∷ bs) z (sym (ap (λ t. if t then is_numeral bs && not (slice_index bs 0 == 48) else is_numeral (b ∷ bs)) minus) ∙ numeral) read
    by t minus false numeral read = absurd (cc)

-- an integer that was read has 64 bits
integer_fits : (w : List ℕ) (z : ℤ) → integer_of w ≡ Some z → fits_i64 z ≡ true
integer_fits w z read = by (is_signed_numeral w) read
  where
    by : (b : Bool) → (if b then in_i64 (signed_digits_value 10 w) else None) ≡ Some z → fits_i64 z ≡ true
    by true read = let is = in_range (signed_digits_value 10 w) z read in ap fits_i64 (sym is.0) ∙ is.1
    by false read = absurd (cc)

pub integer_at_spelled : (w : List ℕ) (z : ℤ) → integer_at w ≡ Ok z → (w ≡ signed_decimal z) × (fits_i64 z ≡ true)
integer_at_spelled w z read = by (integer_of w) refl read
  where
    by : (o : Option ℤ) → integer_of w ≡ o → ok_or o Number ≡ Ok z → (w ≡ signed_decimal z) × (fits_i64 z ≡ true)
    by None is read = absurd (cc)
    by (Some y) is read = let same : y ≡ z = cc in let at : integer_of w ≡ Some z = is ∙ ap Some same in (integer_spelled w z at, integer_fits w z at)

pub name_spelled : (w n : List ℕ) → name_at w ≡ Ok n → (w ≡ n) × (is_name n ≡ true)
name_spelled w n read = by (is_name w) refl read
  where
    by : (b : Bool) → is_name w ≡ b → (if b then Ok w else Err BadName) ≡ Ok n → (w ≡ n) × (is_name n ≡ true)
    by true is read = let same : w ≡ n = cc in (same, ap is_name (sym same) ∙ is)
    by false is read = absurd (cc)

pub value_spelled : (w : List ℕ) (v : Value) → value_at w ≡ Ok v → (w ≡ value_text v) × (is_value v ≡ true)
value_spelled [] v read = absurd (cc)
value_spelled (a ∷ []) v read = absurd (cc)
value_spelled (a ∷ m ∷ rest) v read = by (bytes_eq (a ∷ m ∷ []) (codes "c:")) refl (bytes_eq (a ∷ m ∷ []) (codes "t:")) refl read
  where
    count : a ∷ m ∷ [] ≡ codes "c:" → (o : Option ℤ) → integer_of rest ≡ o → counter o ≡ Ok v → (a ∷ m ∷ rest ≡ value_text v) × (is_value v ≡ true)
    count kind None is read = absurd (cc)
    count kind (Some z) is read =
        let same : Count z ≡ v = cc in
        (ap (λ k. k ++ rest) kind ∙ ap (λ ds. codes "c:" ++ ds) (integer_spelled rest z is) ∙ ap value_text same, ap is_value (sym same) ∙ integer_fits rest z is)

    text : a ∷ m ∷ [] ≡ codes "t:" → (b : Bool) → is_text rest ≡ b → (if b then Ok (Text rest) else Err BadValue) ≡ Ok v → (a ∷ m ∷ rest ≡ value_text v) × (is_value v ≡ true)
    text kind true is read = let same : Text rest ≡ v = cc in (ap (λ k. k ++ rest) kind ∙ ap value_text same, ap is_value (sym same) ∙ is)
    text kind false is read = absurd (cc)

    by : (s : Bool) → bytes_eq (a ∷ m ∷ []) (codes "c:") ≡ s → (t : Bool) → bytes_eq (a ∷ m ∷ []) (codes "t:") ≡ t → (if s then counter (integer_of rest) else if t && is_text rest then Ok (Text rest) else Err BadValue) ≡ Ok v → (a ∷ m ∷ rest ≡ value_text v) × (is_value v ≡ true)
    by true is t other read = count ((bytes_eq-Decides (a ∷ m ∷ []) (codes "c:")).0 is) (integer_of rest) refl read
    by false other true is read = text ((bytes_eq-Decides (a ∷ m ∷ []) (codes "t:")).0 is) (is_text rest) refl read
    by false other false none read = absurd (cc)

-- each entry of a table has the spelling of its meaning
abbrev pub are_spelled : {X : Type 0} → (X → List ℕ) → List (List ℕ × X) → Bool
are_spelled spell = list_all (λ e. bytes_eq e.0 (spell e.1))

pub found_spelled : {X : Type 0} (spell : X → List ℕ) (w : List ℕ) (es : List (List ℕ × X)) (x : X) → lookup (bytes_eq w) es ≡ Some x → are_spelled spell es ≡ true → w ≡ spell x
found_spelled spell w [] x found all = absurd (cc)
found_spelled {X} spell w (e ∷ es) x found all = by (bytes_eq w e.0) refl found (λ later. found_spelled spell w es x later parts.1)
  where
    parts : (bytes_eq e.0 (spell e.1) ≡ true) × (are_spelled spell es ≡ true)
    parts = and_parts (bytes_eq e.0 (spell e.1)) (are_spelled spell es) all

    by : (b : Bool) → bytes_eq w e.0 ≡ b → cond b (Some e.1) (lookup (bytes_eq w) es) ≡ Some x → (lookup (bytes_eq w) es ≡ Some x → w ≡ spell x) → w ≡ spell x
    by true same found more = let is : e.1 ≡ x = cc in (bytes_eq-Decides w e.0).0 same ∙ (bytes_eq-Decides e.0 (spell e.1)).0 parts.0 ∙ ap spell is
    by false other found more = more found

-- the word of a verb
abbrev pub verb_word : Verb → List ℕ
verb_word verb.Read = codes "read"
verb_word verb.Write = codes "write"
verb_word verb.Add = codes "add"
verb_word verb.Cas = codes "cas"
verb_word verb.Ask = codes "ask"

pub target_spelled : (w : List ℕ) (t : Target) → known (target_of w) ≡ Ok t → w ≡ target_word t
target_spelled w t read = by (target_of w) refl read
  where
    by : (o : Option Target) → target_of w ≡ o → known o ≡ Ok t → w ≡ target_word t
    by None is read = absurd (cc)
    by (Some u) is read = let same : u ≡ t = cc in found_spelled target_word w targets t (is ∙ ap Some same) refl

pub verb_spelled : (version : ℕ) (w : List ℕ) (v : Verb) → verb_at version w ≡ Ok v → (w ≡ verb_word v) × (is_verb_of version v ≡ true)
verb_spelled version w v read = by (verb_of w) refl read
  where
    kept : (u : Verb) (b : Bool) → is_verb_of version u ≡ b → (if b then Ok u else Err Unknown) ≡ Ok v → (u ≡ v) × (is_verb_of version v ≡ true)
    kept u true is read = let same : u ≡ v = cc in (same, ap (is_verb_of version) (sym same) ∙ is)
    kept u false is read = absurd (cc)

    by : (o : Option Verb) → verb_of w ≡ o → (known o >>= λ verb. if is_verb_of version verb then Ok verb else Err Unknown) ≡ Ok v → (w ≡ verb_word v) × (is_verb_of version v ≡ true)
    by None is read = absurd (cc)
    by (Some u) is read =
        let allowed = kept u (is_verb_of version u) refl read in
        (found_spelled verb_word w verbs v (is ∙ ap Some allowed.0) refl, allowed.1)
