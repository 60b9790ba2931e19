-- The first line of a text, of which some bytes are known.
use Rattle.std.proofs.Common.{◌≡◌, ℕ, ◌+◌, ◌<◌, ◌≤◌, ◌==◌, ◌&&◌, not, Bool, true, false, if◌then◌else◌, List, [], ◌∷◌, ◌++◌, length, Option, Some, None, IfSome, Result, Ok, Err, IsErrAnd, refl, ap, sym, subst, ◌∙◌, append_assoc, append-nil, arith}
use Rattle.std.proofs.lemmas.Bool.{and_from}
use Rattle.std.proofs.lemmas.Bool.Decides.{nat_tests}
use Rattle.std.proofs.lemmas.List.Folds.{list_all-append}
use Rattle.std.specs.Io.KnownBytes.{Consumes, IsAtEnd, prepend_known}
use Rattle.std.specs.List.{list_all}
use Rattle.files.specs.{ComesToEnd, Fault, FindsLine, Given, GoesOn, Held, IsReadFault, IsTooLong, LineState, MovesAll, MovesEnded, Stays, TakesLine, Reported, begins_with, coming, is_inner, lines, onto, shown_line, unless_ended, without_return}
use Rattle.files.specs.declared.faults.Fault.TheVariants.{Line, Read, Write, Memory}
use Rattle.files.specs.declared.faults.FaultKind.TheVariants.{TooLong}
use Rattle.files.proofs.Blocks.{stays}

-- the lines of a byte and those after it, if the byte is not 0x0A
behind : (b : ℕ) (bs : List ℕ) → (b == 10) ≡ false → lines (b ∷ bs) ≡ (if (b == 13) && begins_with 10 bs then lines bs else onto b (lines bs))
behind b bs inner = ap (λ s. if s then [] ∷ lines bs else if (b == 13) && begins_with 10 bs then lines bs else onto b (lines bs)) inner

-- neither the byte nor the next one is 0x0A
behind_two : (b c : ℕ) (bs : List ℕ) → (b == 10) ≡ false → (c == 10) ≡ false → lines (b ∷ c ∷ bs) ≡ onto b (lines (c ∷ bs))
behind_two b c bs inner next = behind b (c ∷ bs) inner ∙ ap (λ s. if (b == 13) && s then lines (c ∷ bs) else onto b (lines (c ∷ bs))) next ∙ by (b == 13)
  where
    by : (t : Bool) → (if t && false then lines (c ∷ bs) else onto b (lines (c ∷ bs))) ≡ onto b (lines (c ∷ bs))
    by true = refl
    by false = refl

-- bytes up to a 0x0A are a line
pub line_ended : (xs rest : List ℕ) → list_all is_inner xs ≡ true → lines (xs ++ 10 ∷ rest) ≡ without_return xs ∷ lines rest
line_ended [] rest all = refl
line_ended (b ∷ []) rest all =
    let inner : (b == 10) ≡ false = grind (arith, nat_tests) in
    behind b (10 ∷ rest) inner ∙ by (b == 13)
  where
    by : (t : Bool) → (if t && true then [] ∷ lines rest else onto b ([] ∷ lines rest)) ≡ (if t then [] else b ∷ []) ∷ lines rest
    by true = refl
    by false = refl
line_ended (b ∷ c ∷ cs) rest all =
    let inner : (b == 10) ≡ false = grind (arith, nat_tests) in
    let next : (c == 10) ≡ false = grind (arith, nat_tests) in
    let more : list_all is_inner (c ∷ cs) ≡ true = grind (arith, nat_tests) in
    behind_two b c (cs ++ 10 ∷ rest) inner next ∙ ap (onto b) (line_ended (c ∷ cs) rest more)

-- bytes up to the end are one
pub line_last : (b : ℕ) (bs : List ℕ) → list_all is_inner (b ∷ bs) ≡ true → lines (b ∷ bs) ≡ (b ∷ bs) ∷ []
line_last b [] all =
    let inner : (b == 10) ≡ false = grind (arith, nat_tests) in
    behind b [] inner ∙ by (b == 13)
  where
    by : (t : Bool) → (if t && false then [] else (b ∷ []) ∷ []) ≡ (b ∷ []) ∷ []
    by true = refl
    by false = refl
line_last b (c ∷ cs) all =
    let inner : (b == 10) ≡ false = grind (arith, nat_tests) in
    let next : (c == 10) ≡ false = grind (arith, nat_tests) in
    let more : list_all is_inner (c ∷ cs) ≡ true = grind (arith, nat_tests) in
    behind_two b c cs inner next ∙ ap (onto b) (line_last c cs more)

-- there is a first line, of n - 1 bytes or more
record Begins (n : ℕ) (known : List (List ℕ)) : Type 0 where
  line : List ℕ
  others : List (List ℕ)
  is : known ≡ line ∷ others
  long : n ≤ length line + 1

-- a first line with one more byte at its start
onto_begins : (n b : ℕ) (known more : List (List ℕ)) → more ≡ onto b known → Begins n known → Begins (n + 1) more
onto_begins n b known more same begins =
    let long : n ≤ length begins.line + 1 = begins.long in
    record { line = b ∷ begins.line; others = begins.others; is = same ∙ ap (onto b) begins.is; long = omega (arith, long) }

-- a byte other than 0x0A begins a line
one_byte : (b : ℕ) (rest : List ℕ) → (b == 10) ≡ false → Begins 1 (lines (b ∷ rest))
one_byte b [] inner = let whole : lines (b ∷ []) ≡ (b ∷ []) ∷ [] = line_last b [] (ap (λ t. not t && true) inner) in record { line = b ∷ []; others = []; is = whole; long = omega arith }
one_byte b (c ∷ cs) inner = by ((b == 13) && (c == 10)) refl
  where
    known : (ls : List (List ℕ)) → Begins 1 (onto b ls)
    known [] = record { line = b ∷ []; others = []; is = refl; long = omega arith }
    known (l ∷ ls) = record { line = b ∷ l; others = ls; is = refl; long = omega arith }

    test : (t : Bool) → ((b == 13) && (c == 10)) ≡ t → lines (b ∷ c ∷ cs) ≡ (if t then lines (c ∷ cs) else onto b (lines (c ∷ cs)))
    test t is = behind b (c ∷ cs) inner ∙ ap (λ s. if s then lines (c ∷ cs) else onto b (lines (c ∷ cs))) is

    by : (t : Bool) → ((b == 13) && (c == 10)) ≡ t → Begins 1 (lines (b ∷ c ∷ cs))
    by true is =
        let feeds : (c == 10) ≡ true = grind (arith, nat_tests) in
        let empty : lines (c ∷ cs) ≡ [] ∷ lines cs = ap (λ s. if s then [] ∷ lines cs else if (c == 13) && begins_with 10 cs then lines cs else onto c (lines cs)) feeds in
        record { line = []; others = lines cs; is = test true is ∙ empty; long = omega arith }
    by false is = let k = known (lines (c ∷ cs)) in record { line = k.line; others = k.others; is = test false is ∙ k.is; long = k.long }

-- bytes without a 0x0A begin one
begins_with_bytes : (b : ℕ) (bs rest : List ℕ) → list_all is_inner (b ∷ bs) ≡ true → Begins (length (b ∷ bs)) (lines ((b ∷ bs) ++ rest))
begins_with_bytes b [] rest all = let inner : (b == 10) ≡ false = grind (arith, nat_tests) in one_byte b rest inner
begins_with_bytes b (c ∷ cs) rest all =
    let inner : (b == 10) ≡ false = grind (arith, nat_tests) in
    let next : (c == 10) ≡ false = grind (arith, nat_tests) in
    let more : list_all is_inner (c ∷ cs) ≡ true = grind (arith, nat_tests) in
    let k = onto_begins (length (c ∷ cs)) b (lines ((c ∷ cs) ++ rest)) (lines (b ∷ (c ∷ cs) ++ rest)) (behind_two b c (cs ++ rest) inner next) (begins_with_bytes c cs rest more) in
    let long : length (c ∷ cs) + 1 ≤ length k.line + 1 = k.long in
    record { line = k.line; others = k.others; is = k.is; long = omega (arith, long) }

-- a line that begins with 130 such bytes is too long
pub too_long : (xs rest : List ℕ) → list_all is_inner xs ≡ true → 130 ≤ length xs → IsTooLong (xs ++ rest)
too_long [] rest all many = absurd (omega (arith, many))
too_long (b ∷ bs) rest all many =
    let k = begins_with_bytes b bs rest all in
    let long : length (b ∷ bs) ≤ length k.line + 1 = k.long in
    record { line = k.line; others = k.others; is = k.is; long = omega (arith, long, many) }

-- The first line of the bytes that come from a source: some of its bytes were taken, without a 0x0A.

-- a 0x0A came after them
pub fed : (a b : Option (List ℕ)) (ahead rest : Given) (to_come : Option (List ℕ)) (xs line : List ℕ) → list_all is_inner xs ≡ true → Consumes a b xs → Stays b (coming ahead to_come) → MovesEnded ahead.bytes rest.bytes xs line → rest.ended ≡ ahead.ended →
    Reported a (coming rest to_come) (λ text remaining. TakesLine text (without_return line) remaining)
fed a b ahead rest to_come xs line all front stays ends same =
    subst (λ (t : Bool). Reported a (prepend_known rest.bytes (unless_ended t to_come)) (λ text remaining. TakesLine text (without_return line) remaining)) (sym same) (by a b (unless_ended ahead.ended to_come) front stays)
  where
    inner : list_all is_inner (xs ++ ends.part) ≡ true
    inner = list_all-append is_inner xs ends.part ∙ and_from (list_all is_inner xs) (list_all is_inner ends.part) all ends.inner

    together : (more : List ℕ) → xs ++ (ahead.bytes ++ more) ≡ (xs ++ ends.part) ++ 10 ∷ (rest.bytes ++ more)
    together more = ap (λ l. xs ++ (l ++ more)) ends.split ∙ ap (λ l. xs ++ l) (append_assoc ends.part (10 ∷ rest.bytes) more) ∙ sym (append_assoc xs ends.part (10 ∷ (rest.bytes ++ more)))

    by : (a b remaining : Option (List ℕ)) → Consumes a b xs → Stays b (prepend_known ahead.bytes remaining) → Reported a (prepend_known rest.bytes remaining) (λ text remaining. TakesLine text (without_return line) remaining)
    by None b remaining front stays = tt
    by (Some text) None remaining front stays = absurd front
    by (Some text) (Some mid) None front stays = absurd stays
    by (Some text) (Some mid) (Some more) front stays =
        ap lines (front ∙ ap (λ l. xs ++ l) (sym stays) ∙ together more)
        ∙ line_ended (xs ++ ends.part) (rest.bytes ++ more) inner
        ∙ ap (λ l. without_return l ∷ lines (rest.bytes ++ more)) (sym ends.moved)

-- no 0x0A came after them so far: all bytes are taken
pub fed_all : (a b : Option (List ℕ)) (ahead rest : Given) (to_come : Option (List ℕ)) (xs line : List ℕ) → Consumes a b xs → Stays b (coming ahead to_come) → MovesAll ahead.bytes rest.bytes xs line → rest.ended ≡ ahead.ended → Consumes a (coming rest to_come) line
fed_all a b ahead rest to_come xs line front stays moves same =
    subst (λ (t : Bool). Consumes a (prepend_known rest.bytes (unless_ended t to_come)) line) (sym same)
    (subst (λ (l : List ℕ). Consumes a (prepend_known l (unless_ended ahead.ended to_come)) line) (sym moves.none) (by a b (unless_ended ahead.ended to_come) front stays))
  where
    by : (a b remaining : Option (List ℕ)) → Consumes a b xs → Stays b (prepend_known ahead.bytes remaining) → Consumes a (prepend_known [] remaining) line
    by None b remaining front stays = tt
    by (Some text) None remaining front stays = absurd front
    by (Some text) (Some mid) None front stays = absurd stays
    by (Some text) (Some mid) (Some more) front stays = front ∙ ap (λ l. xs ++ l) (sym stays) ∙ sym (append_assoc xs ahead.bytes more) ∙ ap (λ l. l ++ more) (sym moves.moved)

pub all_inner : (old new xs line : List ℕ) → list_all is_inner xs ≡ true → MovesAll old new xs line → list_all is_inner line ≡ true
all_inner old new xs line inner moves = ap (list_all is_inner) moves.moved ∙ list_all-append is_inner xs old ∙ and_from (list_all is_inner xs) (list_all is_inner old) inner moves.inner

-- the bytes are too many for a line
pub fed_long : (a c : Option (List ℕ)) (line : List ℕ) → Reported a c (λ text remaining. TakesLine text line remaining) → 128 < length line → IfSome a IsTooLong
fed_long None c line reported long = tt
fed_long (Some text) None line reported long = absurd reported
fed_long (Some text) (Some rest) line reported long = record { line = line; others = lines rest; is = reported; long = long }

-- no 0x0A came after them, at the end
at_end : (a b c : Option (List ℕ)) (xs : List ℕ) → Consumes a b xs → ComesToEnd b c → Reported a c (λ text rest. (text ≡ xs) × (rest ≡ []))
at_end a b c xs front end = subst (λ (c : Option (List ℕ)). Reported a c (λ text rest. (text ≡ xs) × (rest ≡ []))) (sym end.1) (by a b front end.0)
  where
    by : (a b : Option (List ℕ)) → Consumes a b xs → IsAtEnd b → Reported a (Some []) (λ text rest. (text ≡ xs) × (rest ≡ []))
    by None b front end = tt
    by (Some text) None front end = absurd front
    by (Some text) (Some mid) front end = (front ∙ ap (λ l. xs ++ l) end ∙ append-nil xs, refl)

pub ended : (a b c : Option (List ℕ)) (xs : List ℕ) (n : ℕ) → n ≡ length xs → not (n == 0) ≡ true → list_all is_inner xs ≡ true → Consumes a b xs → ComesToEnd b c → Reported a c (λ text rest. TakesLine text xs rest)
ended a b c [] n same some all front end = absurd (grind (arith, nat_tests))
ended a b c (x ∷ xs) n same some all front end = by a c (at_end a b c (x ∷ xs) front end)
  where
    by : (a c : Option (List ℕ)) → Reported a c (λ text rest. (text ≡ x ∷ xs) × (rest ≡ [])) → Reported a c (λ text rest. TakesLine text (x ∷ xs) rest)
    by None c reported = tt
    by (Some text) None reported = absurd reported
    by (Some text) (Some rest) reported = ap lines reported.0 ∙ line_last x xs all ∙ ap (λ l. (x ∷ xs) ∷ lines l) (sym reported.1)

pub none_came : (a b c : Option (List ℕ)) (xs : List ℕ) (n : ℕ) → n ≡ length xs → not (n == 0) ≡ false → Consumes a b xs → ComesToEnd b c → IsAtEnd a × IsAtEnd c
none_came a b c (x ∷ xs) n same none front end = absurd (grind (arith, nat_tests))
none_came a b c [] n same none front end = (by a b front end.0, subst IsAtEnd (sym end.1) refl)
  where
    by : (a b : Option (List ℕ)) → Consumes a b [] → IsAtEnd b → IsAtEnd a
    by None b front end = tt
    by (Some text) None front end = absurd front
    by (Some text) (Some mid) front end = front ∙ end

-- 130 bytes came, and no 0x0A among them
pub cut_long : (a b : Option (List ℕ)) (xs : List ℕ) → list_all is_inner xs ≡ true → Consumes a b xs → 130 ≤ length xs → IfSome a IsTooLong
cut_long None b xs all front many = tt
cut_long (Some text) None xs all front many = absurd front
cut_long (Some text) (Some rest) xs all front many = subst IsTooLong (sym front) (too_long xs rest all many)

-- nothing was taken yet
pub none_taken : (a : Option (List ℕ)) → Consumes a a []
none_taken None = tt
none_taken (Some text) = refl

-- a line that was found in its place
pub found_first : (old new : Held) (to_come : Option (List ℕ)) (b : Bool) (moved : List ℕ) → b ≡ true → FindsLine old new → new.given.ended ≡ old.given.ended → Reported (coming old.given to_come) (coming new.given to_come) (λ text remaining. TakesLine text (shown_line b new moved) remaining)
found_first old new to_come true moved is found same =
    let all = coming old.given to_come in
    subst (λ (l : List ℕ). Reported all (coming new.given to_come) (λ text remaining. TakesLine text l remaining)) (sym found.line) (fed all all old.given new.given to_come [] found.whole refl (none_taken all) (stays all) found.ends same)
found_first old new to_come false moved is found same = absurd (cc)

-- a call that fails takes no line
pub stops : (r : Result Bool Fault) (e : Fault) (old new : LineState) (to_come rest : Option (List ℕ)) → IsErrAnd r (λ x. x ≡ e) → IsReadFault e → GoesOn r old to_come new rest
stops (Ok some) e old new to_come rest is fault = absurd is
stops (Err x) e old new to_come rest is fault = by x (subst IsReadFault (sym is) fault)
  where
    by : (x : Fault) → IsReadFault x → GoesOn (Err x) old to_come new rest
    by (Line l) read = absurd read
    by Read read = tt
    by Write read = absurd read
    by Memory read = tt

-- a line that is too long is reported
pub reports_long : (e : Fault) (old new : LineState) (to_come rest : Option (List ℕ)) → e ≡ Line (record { line = new.taken + 1; kind = TooLong }) → new.taken ≡ old.taken → IfSome (coming old.ahead to_come) IsTooLong → GoesOn (Err e) old to_come new rest
reports_long e old new to_come rest is same long = subst (λ e. GoesOn (Err e) old to_come new rest) (sym is) (ap (λ (n : ℕ). record { line = n + 1; kind = TooLong }) same, long)
