-- The first words of the files that are read without a fault.
use Rattle.std.proofs.Common.{◌≡◌, ℕ, suc, ◌+◌, ◌-◌, ◌<◌, ◌≤◌, ◌==◌, ◌||◌, not, nat_lt, Bool, true, false, cond, if◌then◌else◌, List, [], ◌∷◌, ◌++◌, codes, filter, length, map, take, Option, None, Some, Result, Ok, Err, refl, ap, sym, subst, ◌∙◌, arith}
use Rattle.std.proofs.lemmas.Bool.Decides.{nat_tests}
use Rattle.std.proofs.lemmas.List.{take_all}
use Rattle.std.proofs.Math.Seq.{take-append-add}
use Rattle.std.proofs.lemmas.Slice.Eq.{bytes_eq-Decides}
use Rattle.std.specs.Option.{is_some, unwrap_or}
use Rattle.std.specs.Str.{bytes_eq}
use Rattle.files.specs.{FaultKind, at_line, begins_with, begun, fault_if, file_of, input_limit, is_said, lines, said_words, statement_read, word, words_of, words_read, ◌>>=◌}
use Rattle.files.specs.declared.faults.FaultKind.TheVariants.{NotFirst, TooLong}
use Rattle.files.proofs.CutTexts.{reports_at_limit}
use Rattle.files.proofs.Passing.{Passed, no_fault, passed}
use Rattle.files.proofs.Said.{first_then, said_read, text_said}
use Rattle.model.specs.{Entry}
use Rattle.record_file.specs.{Progress, Said, cleared, entry_in, first_read, line_read, lines_read, record_grammar, record_of, said_by}
use Rattle.record_file.specs.scenario.{Progress as Head, Script, at_version, first_read as scenario_first, scenario_grammar, scenario_of, script_of}
use Rattle.command_line.proofs.Opening.{opened_behind}
use Rattle.command_line.specs.{FirstWord, Front, IsLookedAt, Whole, first_word, word_meant, word_opened}
use Rattle.command_line.specs.declared.first_word.FirstWord.TheVariants.{Record, Trace, Other}

-- Records.

-- where something was read, the first line that is not skipped opens a record
abbrev OpensIf : Option Progress → List (List (List ℕ)) → Type 0
OpensIf None said = Unit {0}
OpensIf (Some p) said = word_opened said ≡ Some Record

opens_if : (o : Option Progress) (said : List (List (List ℕ))) → word_opened said ≡ Some Record → OpensIf o said
opens_if None said opens = tt
opens_if (Some p) said opens = opens

-- such a line begins with `record`
named : (first : List ℕ) (words : List (List ℕ)) (p : Progress) → first_read first words ≡ Ok p → bytes_eq first (codes "record") ≡ true
unfolding first_read
named first words p read =
    let a = passed (fault_if (not (bytes_eq first (codes "record")) || not (length words == 1)) NotFirst) (λ named. at_version (word 0 words) >>= λ head. Ok (record { head = head; ended = false; entry = None })) p read in
    let test : (not (bytes_eq first (codes "record")) || not (length words == 1)) ≡ false = no_fault _ NotFirst a.value a.first in
    grind (arith, nat_tests)

at_line_read : (n : ℕ) (r : Result (Option Progress) FaultKind) (now : Option Progress) → at_line n r ≡ Ok now → r ≡ Ok now
at_line_read n (Ok x) now read = let same : x ≡ now = cc in ap (λ y. Ok y) same
at_line_read n (Err kind) now read = absurd (cc)

words_were_read : (line : List ℕ) (now : Option Progress) → line_read line None ≡ Ok now → words_read record_grammar (words_of line) None ≡ Ok now
words_were_read line now read = by (nat_lt 128 (length line)) read
  where
    by : (b : Bool) → (if b then Err TooLong else words_read record_grammar (words_of line) None) ≡ Ok now → words_read record_grammar (words_of line) None ≡ Ok now
    by true read = absurd (cc)
    by false read = read

-- so does a front line, or nothing was read before the others
line_opens : (words : List (List ℕ)) (others : List (List (List ℕ))) (now after : Option Progress) → words_read record_grammar words None ≡ Ok now → (None ≡ now → OpensIf after (filter is_said others)) → OpensIf after (filter is_said (words ∷ others))
line_opens [] others now after read later = let none : None ≡ now = cc in later none
line_opens (first ∷ words) others now after read later = test (begins_with 35 first) read
  where
    test : (b : Bool) → (let r : Result (Option Progress) FaultKind = (if b then Ok None else statement_read record_grammar first words None) in r) ≡ Ok now → OpensIf after (cond (not b) ((first ∷ words) ∷ filter is_said others) (filter is_said others))
    test true read = let none : None ≡ now = cc in later none
    test false read =
        let p = passed (first_read first words) (λ s. Ok (Some s)) now read in
        opens_if after ((first ∷ words) ∷ filter is_said others) (ap (λ b. Some (cond b Record (cond (bytes_eq first (codes "trace")) Trace Other))) (named first words p.value p.first))

lines_open : (n : ℕ) (ls : List (List ℕ)) (entries : List Entry) (read : Option Progress × List Entry) → lines_read n ls None entries ≡ Ok read → OpensIf read.0 (filter is_said (map words_of ls))
lines_open n [] entries read is = let same : (None, entries) ≡ read = cc in subst (λ (r : Option Progress × List Entry). OpensIf r.0 []) same tt
lines_open n (line ∷ rest) entries read is =
    let a = passed (at_line n (line_read line None)) (λ now. lines_read (n + 1) rest (cleared now) (entries ++ entry_in now)) read is in
    line_opens (words_of line) (map words_of rest) a.value read.0 (words_were_read line a.value (at_line_read n (line_read line None) a.value a.first))
    (λ none. lines_open (n + 1) rest (entries ++ []) read (subst (λ (now : Option Progress). lines_read (n + 1) rest (cleared now) (entries ++ entry_in now) ≡ Ok read) (sym none) a.next))

-- where all bytes are looked at
pub looked_at : (text : List ℕ) (w : FirstWord) → length text ≤ input_limit → word_opened (said_words text) ≡ Some w → first_word text ≡ w
looked_at text w few opens = ap (λ t. unwrap_or (word_opened (said_words t)) Other) (take_all input_limit text few) ∙ ap (λ o. unwrap_or o Other) opens

-- or the line that determines the first word
cut_behind : (n k : ℕ) (front rest : List ℕ) → n ≡ length front + suc k → take n (front ++ 10 ∷ rest) ≡ front ++ 10 ∷ take k rest
cut_behind n k front rest all = ap (λ n. take n (front ++ 10 ∷ rest)) all ∙ take-append-add front (10 ∷ rest) (suc k)

pub line_looked_at : (front rest : List ℕ) → length front < input_limit → is_some (word_opened (said_words (front ++ 10 ∷ []))) ≡ true → word_opened (said_words (take input_limit (front ++ 10 ∷ rest))) ≡ word_opened (said_words (front ++ 10 ∷ rest))
line_looked_at front rest few some =
    let k : ℕ = input_limit - length front - 1 in
    let all : input_limit ≡ length front + suc k = omega (arith, few) in
    ap (λ t. word_opened (said_words t)) (cut_behind input_limit k front rest all) ∙ opened_behind front (take k rest) some ∙ sym (opened_behind front rest some)

pub recognizes_records : (text : List ℕ) (said : Said) → record_of text ≡ Ok said → IsLookedAt text → first_word text ≡ Record
recognizes_records text said read = by
  where
    a : Passed (lines_read 1 (lines text) None []) (said_by (1 + length (lines text))) said
    a = passed (lines_read 1 (lines text) None []) (said_by (1 + length (lines text))) said read

    some : (o : Option Progress) → OpensIf o (said_words text) → (begun (1 + length (lines text)) o >>= λ p. Ok (record { setup = p.head.setup; entries = a.value.1 })) ≡ Ok said → word_opened (said_words text) ≡ Some Record
    some None opens is = absurd (cc)
    some (Some p) opens is = opens

    opens : word_opened (said_words text) ≡ Some Record
    opens = some a.value.0 (lines_open 1 (lines text) [] a.value a.first) a.next

    by : IsLookedAt text → first_word text ≡ Record
    by (Whole few) = looked_at text Record few opens
    by (Front front rest is few reported) =
        ap (λ o. unwrap_or o Other) (ap (λ t. word_opened (said_words (take input_limit t))) is ∙ line_looked_at front rest few reported ∙ ap (λ t. word_opened (said_words t)) (sym is) ∙ opens)

-- Scenarios.

named_otherwise : (first : List ℕ) (words : List (List ℕ)) (p : Head) → scenario_first first words ≡ Ok p → word_meant first ≡ Other
unfolding scenario_first
named_otherwise first words p read =
    let a = passed (fault_if (not (bytes_eq first (codes "bakery")) || not (length words == 1)) NotFirst) (λ named. at_version (word 0 words)) p read in
    let test : (not (bytes_eq first (codes "bakery")) || not (length words == 1)) ≡ false = no_fault _ NotFirst a.value a.first in
    let is : bytes_eq first (codes "bakery") ≡ true = grind (arith, nat_tests) in
    ap word_meant ((bytes_eq-Decides first (codes "bakery")).0 is)

said_otherwise : (said : List (List (List ℕ))) (p : Head) → said_read scenario_grammar said None ≡ Ok (Some p) → word_opened said ≡ Some Other
said_otherwise [] p read = absurd (cc)
said_otherwise ([] ∷ more) p read = absurd (cc)
said_otherwise ((first ∷ words) ∷ more) p read =
    let a = first_then scenario_grammar first words more (Some p) read in
    ap (λ w. Some w) (named_otherwise first words a.value a.first)

pub leaves_scenarios : (text : List ℕ) (script : Script) → scenario_of text ≡ Ok script → first_word text ≡ Other
leaves_scenarios text script read = by (nat_lt (length text) input_limit) refl
  where
    a : Passed (file_of scenario_grammar text) (λ p. Ok (script_of p)) script
    a = passed (file_of scenario_grammar text) (λ p. Ok (script_of p)) script read

    by : (b : Bool) → nat_lt (length text) input_limit ≡ b → first_word text ≡ Other
    by true is = let few : length text ≤ input_limit = grind (arith, nat_tests) in looked_at text Other few (said_otherwise (said_words text) a.value (text_said scenario_grammar text a.value a.first).1)
    by false is =
        let many : input_limit ≤ length text = grind (arith, nat_tests) in
        let whole = reports_at_limit scenario_grammar text many in
        let no : Ok a.value ≡ Err whole.fault = sym a.first ∙ whole.right in
        absurd (cc)
