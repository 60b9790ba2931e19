-- A text that is read as a trace, without a fault, has the first word `trace`.
use Rattle.std.proofs.Common.{◌≡◌, ℕ, ◌+◌, ◌==◌, ◌&&◌, not, nat_lt, Bool, true, false, cond, if◌then◌else◌, List, [], ◌∷◌, ◌++◌, codes, filter, length, map, take, Option, None, Some, Result, Ok, Err, refl, ap, sym, subst, ◌∙◌}
use Rattle.std.proofs.lemmas.Slice.Eq.{bytes_eq-Decides}
use Rattle.std.specs.Option.{unwrap_or}
use Rattle.std.specs.Str.{bytes_eq}
use Rattle.files.specs.{FaultKind, at_line, begins_with, begun, input_limit, is_said, lines, said_words, statement_read, word, words_of, words_read, ◌>>=◌}
use Rattle.files.specs.declared.faults.FaultKind.TheVariants.{NotFirst, TooLong}
use Rattle.files.proofs.Passing.{Passed, passed}
use Rattle.trace_file.specs.TraceFiles.{TraceProgress, TraceRead, TraceSaid, cleared, entry_in, first_read, line_read, lines_read, number_in, said_by, trace_begun, trace_grammar, trace_said}
use Rattle.command_line.proofs.Recognizing.{line_looked_at, looked_at}
use Rattle.command_line.specs.{Front, IsLookedAt, Whole, first_word, word_meant, word_opened}
use Rattle.command_line.specs.declared.first_word.FirstWord.TheVariants.{Trace, Other}

-- where something was read, the first line that is not skipped opens a trace
abbrev OpensIf : Option TraceProgress → List (List (List ℕ)) → Type 0
OpensIf None said = Unit {0}
OpensIf (Some p) said = word_opened said ≡ Some Trace

opens_if : (o : Option TraceProgress) (said : List (List (List ℕ))) → word_opened said ≡ Some Trace → OpensIf o said
opens_if None said opens = tt
opens_if (Some p) said opens = opens

-- such a line begins with `trace`
named : (first : List ℕ) (words : List (List ℕ)) (p : TraceProgress) → first_read first words ≡ Ok p → word_meant first ≡ Trace
named first words p read = ap word_meant ((bytes_eq-Decides first (codes "trace")).0 (by (bytes_eq first (codes "trace")) read))
  where
    by : (b : Bool) → (if b && ((length words == 1) && bytes_eq (word 0 words) (codes "1")) then Ok trace_begun else Err NotFirst) ≡ Ok p → b ≡ true
    by true read = refl
    by false read = absurd (cc)

at_line_read : (n : ℕ) (r : Result (Option TraceProgress) FaultKind) (now : Option TraceProgress) → at_line n r ≡ Ok now → r ≡ Ok now
at_line_read n (Ok x) now read = let same : x ≡ now = cc in ap (λ y. Ok y) same
at_line_read n (Err kind) now read = absurd (cc)

words_were_read : (line : List ℕ) (now : Option TraceProgress) → line_read line None ≡ Ok now → words_read trace_grammar (words_of line) None ≡ Ok now
words_were_read line now read = by (nat_lt 128 (length line)) read
  where
    by : (b : Bool) → (if b then Err TooLong else words_read trace_grammar (words_of line) None) ≡ Ok now → words_read trace_grammar (words_of line) None ≡ Ok now
    by true read = absurd (cc)
    by false read = read

-- so does a line, or it is skipped
line_opens : (words : List (List ℕ)) (others : List (List (List ℕ))) (now after : Option TraceProgress) → words_read trace_grammar words None ≡ Ok now → (None ≡ now → OpensIf after (filter is_said others)) → OpensIf after (filter is_said (words ∷ others))
line_opens [] others now after read later = let none : None ≡ now = cc in later none
line_opens (first ∷ words) others now after read later = test (begins_with 35 first) read
  where
    test : (b : Bool) → (let r : Result (Option TraceProgress) FaultKind = (if b then Ok None else statement_read trace_grammar first words None) in r) ≡ Ok now → OpensIf after (cond (not b) ((first ∷ words) ∷ filter is_said others) (filter is_said others))
    test true read = let none : None ≡ now = cc in later none
    test false read =
        let p = passed (first_read first words) (λ s. Ok (Some s)) now read in
        opens_if after ((first ∷ words) ∷ filter is_said others) (ap (λ w. Some w) (named first words p.value p.first))

lines_open : (n : ℕ) (ls : List (List ℕ)) (before read : TraceRead) → before.last ≡ None → lines_read n ls before ≡ Ok read → OpensIf read.last (filter is_said (map words_of ls))
lines_open n [] before read none is =
    let same : before ≡ read = cc in subst (λ (r : TraceRead). OpensIf r.last []) same (subst (λ (o : Option TraceProgress). OpensIf o []) (sym none) tt)
lines_open n (line ∷ rest) before read none is =
    let a = passed (at_line n (line_read line before.last)) (λ now. lines_read (n + 1) rest (record { last = cleared now; entries = before.entries ++ entry_in now; numbers = before.numbers ++ number_in n now })) read is in
    line_opens (words_of line) (map words_of rest) a.value read.last
    (words_were_read line a.value (ap (line_read line) (sym none) ∙ at_line_read n (line_read line before.last) a.value a.first))
    (λ skipped. lines_open (n + 1) rest (record { last = cleared a.value; entries = before.entries ++ entry_in a.value; numbers = before.numbers ++ number_in n a.value }) read (ap cleared (sym skipped)) a.next)

-- before the first line
abbrev unread : TraceRead
unread = record { last = None; entries = []; numbers = [] }

pub recognizes_traces : (text : List ℕ) (said : TraceSaid) → trace_said text ≡ Ok said → IsLookedAt text → first_word text ≡ Trace
recognizes_traces text said read = by
  where
    a : Passed (lines_read 1 (lines text) unread) (said_by (1 + length (lines text))) said
    a = passed (lines_read 1 (lines text) unread) (said_by (1 + length (lines text))) said read

    some : (o : Option TraceProgress) → OpensIf o (said_words text) → (begun (1 + length (lines text)) o >>= λ p. Ok (record { setup = p.setup; entries = a.value.entries; numbers = a.value.numbers })) ≡ Ok said → word_opened (said_words text) ≡ Some Trace
    some None opens is = absurd (cc)
    some (Some p) opens is = opens

    opens : word_opened (said_words text) ≡ Some Trace
    opens = some a.value.last (lines_open 1 (lines text) unread a.value refl a.first) a.next

    by : IsLookedAt text → first_word text ≡ Trace
    by (Whole few) = looked_at text Trace few opens
    by (Front front rest is few reported) =
        ap (λ o. unwrap_or o Other) (ap (λ t. word_opened (said_words (take input_limit t))) is ∙ line_looked_at front rest few reported ∙ ap (λ t. word_opened (said_words t)) (sym is) ∙ opens)
