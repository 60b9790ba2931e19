-- A text within the limits has the value of its lines that are not skipped.
use Rattle.std.proofs.Common.{◌≡◌, ℕ, ◌+◌, ◌≤◌, ◌||◌, not, nat_lt, Bool, true, false, cond, if◌then◌else◌, List, [], ◌∷◌, length, map, filter, Option, Some, None, Result, Ok, Err, refl, ap, ◌∙◌, arith}
use Rattle.std.proofs.lemmas.Bool.{and_from, and_parts}
use Rattle.std.proofs.lemmas.Bool.Decides.{nat_tests}
use Rattle.std.specs.List.{list_all}
use Rattle.files.specs.{FaultKind, Grammar, IsWithinLimits, at_line, begins_with, begun, file_of, is_said, is_short, line_read, lines, lines_read, said_words, statement_read, words_of, words_read, ◌>>=◌}
use Rattle.files.specs.declared.faults.FaultKind.TheVariants.{NotFirst, TooLong}
use Rattle.files.proofs.Passing.{Passed, passed}

-- a line by its words, if it is not skipped
abbrev pub said_line : {S : Type 0} → Grammar S → List (List ℕ) → Option S → Result (Option S) FaultKind
said_line g [] before = Err NotFirst
said_line g (first ∷ words) before = statement_read g first words before

-- lines that are not skipped, one after another
abbrev pub said_read : {S : Type 0} → Grammar S → List (List (List ℕ)) → Option S → Result (Option S) FaultKind
said_read g [] before = Ok before
said_read g (words ∷ more) before = said_line g words before >>= said_read g more

-- a line that was read is within the limits
record LineRead {S : Type 0} (g : Grammar S) (n : ℕ) (line : List ℕ) (before mid : Option S) : Type 0 where
  early : n ≤ 4096
  short : is_short line ≡ true
  read : words_read g (words_of line) before ≡ Ok mid

line_was_read : {S : Type 0} (g : Grammar S) (n : ℕ) (line : List ℕ) (before mid : Option S) → line_read g n line before ≡ Ok mid → LineRead g n line before mid
line_was_read {S} g n line before mid read = by (nat_lt 4096 n || nat_lt 128 (length line)) refl read
  where
    by : (b : Bool) → (nat_lt 4096 n || nat_lt 128 (length line)) ≡ b → (if b then Err TooLong else words_read g (words_of line) before) ≡ Ok mid → LineRead g n line before mid
    by true is read = absurd (cc)
    by false is read = record { early = grind (arith, nat_tests); short = grind (arith, nat_tests); read = read }

-- a line within the limits is read
line_is_read : {S : Type 0} (g : Grammar S) (n : ℕ) (line : List ℕ) (before mid : Option S) → LineRead g n line before mid → line_read g n line before ≡ Ok mid
line_is_read g n line before mid is =
    let early : n ≤ 4096 = is.early in
    let short : is_short line ≡ true = is.short in
    let test : (nat_lt 4096 n || nat_lt 128 (length line)) ≡ false = grind (arith, nat_tests) in
    ap (λ t. if t then Err TooLong else words_read g (words_of line) before) test ∙ is.read

-- one more line before the others
one_said : {S : Type 0} (g : Grammar S) (ws : List (List ℕ)) (rest : List (List (List ℕ))) (before mid after : Option S) → words_read g ws before ≡ Ok mid → said_read g (filter is_said rest) mid ≡ Ok after → said_read g (filter is_said (ws ∷ rest)) before ≡ Ok after
one_said g [] rest before mid after read others = let same : before ≡ mid = cc in ap (said_read g (filter is_said rest)) same ∙ others
one_said {S} g (first ∷ words) rest before mid after read others = by (begins_with 35 first) read
  where
    by : (b : Bool) → (if b then Ok before else statement_read g first words before) ≡ Ok mid → said_read g (cond (not b) ((first ∷ words) ∷ filter is_said rest) (filter is_said rest)) before ≡ Ok after
    by true read = let same : before ≡ mid = cc in ap (said_read g (filter is_said rest)) same ∙ others
    by false read = ap (λ r. r >>= said_read g (filter is_said rest)) read ∙ others

-- the converse: the first line was read, and then the others
one_read : {S : Type 0} (g : Grammar S) (ws : List (List ℕ)) (rest : List (List (List ℕ))) (before after : Option S) → said_read g (filter is_said (ws ∷ rest)) before ≡ Ok after → Passed (words_read g ws before) (said_read g (filter is_said rest)) after
one_read g [] rest before after read = record { value = before; first = refl; next = read }
one_read {S} g (first ∷ words) rest before after read = by (begins_with 35 first) read
  where
    by : (b : Bool) → said_read g (cond (not b) ((first ∷ words) ∷ filter is_said rest) (filter is_said rest)) before ≡ Ok after → Passed (if b then Ok before else statement_read g first words before) (said_read g (filter is_said rest)) after
    by true read = record { value = before; first = refl; next = read }
    by false read = passed (statement_read g first words before) (said_read g (filter is_said rest)) after read

-- lines from number n on, within the limits, and the value of those that are not skipped
record LinesSaid {S : Type 0} (g : Grammar S) (n : ℕ) (ls : List (List ℕ)) (before after : Option S) : Type 0 where
  few : n + length ls ≤ 4097
  short : list_all is_short ls ≡ true
  read : said_read g (filter is_said (map words_of ls)) before ≡ Ok after

lines_said : {S : Type 0} (g : Grammar S) (n : ℕ) (ls : List (List ℕ)) (before after : Option S) → n ≤ 4097 → lines_read g n ls before ≡ Ok after → LinesSaid g n ls before after
lines_said g n [] before after low read = let same : before ≡ after = cc in record { few = omega arith; short = refl; read = ap (λ b. Ok b) same }
lines_said {S} g n (line ∷ rest) before after low read =
    let a = passed (at_line n (line_read g n line before)) (lines_read g (n + 1) rest) after read in
    let here = line_was_read g n line before a.value (at_line_passed (line_read g n line before) a.value a.first) in
    let early : n ≤ 4096 = here.early in
    let more = lines_said g (n + 1) rest a.value after (omega (arith, early)) a.next in
    let few : n + 1 + length rest ≤ 4097 = more.few in
    record {
      few = omega (arith, few);
      short = and_from (is_short line) (list_all is_short rest) here.short more.short;
      read = one_said g (words_of line) (map words_of rest) before a.value after here.read more.read;
    }
  where
    at_line_passed : (r : Result (Option S) FaultKind) (mid : Option S) → at_line n r ≡ Ok mid → r ≡ Ok mid
    at_line_passed (Ok x) mid passed = let same : x ≡ mid = cc in ap (λ y. Ok y) same
    at_line_passed (Err kind) mid passed = absurd (cc)

lines_are_read : {S : Type 0} (g : Grammar S) (n : ℕ) (ls : List (List ℕ)) (before after : Option S) → LinesSaid g n ls before after → lines_read g n ls before ≡ Ok after
lines_are_read g n [] before after is = let read : said_read g [] before ≡ Ok after = is.read in let same : before ≡ after = cc in ap (λ b. Ok b) same
lines_are_read g n (line ∷ rest) before after is =
    let few : n + length (line ∷ rest) ≤ 4097 = is.few in
    let short = and_parts (is_short line) (list_all is_short rest) is.short in
    let a = one_read g (words_of line) (map words_of rest) before after is.read in
    ap (λ r. at_line n r >>= lines_read g (n + 1) rest) (line_is_read g n line before a.value (record { early = omega (arith, few); short = short.0; read = a.first }))
    ∙ lines_are_read g (n + 1) rest a.value after (record { few = omega (arith, few); short = short.1; read = a.next })

-- A text that was read is within the limits, and has the value of its lines that are not skipped.
pub text_said : {S : Type 0} (g : Grammar S) (text : List ℕ) (s : S) → file_of g text ≡ Ok s → IsWithinLimits text × (said_read g (said_words text) None ≡ Ok (Some s))
text_said {S} g text s read =
    let a = passed (lines_read g 1 (lines text) None) (begun (length (lines text) + 1)) s read in
    let all = lines_said g 1 (lines text) None a.value (omega arith) a.first in
    let few : 1 + length (lines text) ≤ 4097 = all.few in
    (record { few = omega (arith, few); short = all.short }, all.read ∙ ap (λ p. Ok p) (begun_with a.value a.next))
  where
    begun_with : (p : Option S) → begun (length (lines text) + 1) p ≡ Ok s → p ≡ Some s
    begun_with None is = absurd (cc)
    begun_with (Some q) is = let same : q ≡ s = cc in ap (λ r. Some r) same

-- The converse: a text within the limits is read as the value of its lines that are not skipped.
pub text_is_read : {S : Type 0} (g : Grammar S) (text : List ℕ) (s : S) → IsWithinLimits text → said_read g (said_words text) None ≡ Ok (Some s) → file_of g text ≡ Ok s
text_is_read g text s limits read =
    let few : length (lines text) ≤ 4096 = limits.few in
    ap (λ r. r >>= begun (length (lines text) + 1)) (lines_are_read g 1 (lines text) None (Some s) (record { few = omega (arith, few); short = limits.short; read = read }))

-- The first of some lines was read as a later line, and then the others.
pub later_then : {S : Type 0} (g : Grammar S) (first : List ℕ) (words : List (List ℕ)) (more : List (List (List ℕ))) (before : S) (after : Option S) → said_read g ((first ∷ words) ∷ more) (Some before) ≡ Ok after → Passed (g.later first words before) (λ s. said_read g more (Some s)) after
later_then {S} g first words more before after read = by (g.later first words before) read
  where
    by : (r : Result S FaultKind) → ((r >>= λ s. Ok (Some s)) >>= said_read g more) ≡ Ok after → Passed r (λ s. said_read g more (Some s)) after
    by (Ok s) read = record { value = s; first = refl; next = read }
    by (Err kind) read = absurd (cc)

-- The first of some lines was read as the first of all, and then the others.
pub first_then : {S : Type 0} (g : Grammar S) (first : List ℕ) (words : List (List ℕ)) (more : List (List (List ℕ))) (after : Option S) → said_read g ((first ∷ words) ∷ more) None ≡ Ok after → Passed (g.first first words) (λ s. said_read g more (Some s)) after
first_then {S} g first words more after read = by (g.first first words) read
  where
    by : (r : Result S FaultKind) → ((r >>= λ s. Ok (Some s)) >>= said_read g more) ≡ Ok after → Passed r (λ s. said_read g more (Some s)) after
    by (Ok s) read = record { value = s; first = refl; next = read }
    by (Err kind) read = absurd (cc)
