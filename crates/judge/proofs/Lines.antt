-- The progress of reading after one more line of a record file.
use Rattle.std.proofs.Common.{◌≡◌, ℕ, ◌==◌, ◌<◌, ◌≤◌, ◌||◌, not, nat_lt, Bool, true, false, if◌then◌else◌, List, [], ◌∷◌, length, codes, cond, IsSome, Option, Some, None, Result, Ok, Err, refl, ap, sym, subst, ◌∙◌, arith}
use Rattle.std.proofs.lemmas.Bool.Decides.{nat_tests}
use Rattle.std.proofs.lemmas.Slice.Eq.{bytes_eq-Decides}
use Rattle.std.specs.Option.{option_to_list}
use Rattle.std.specs.Str.{bytes_eq}
use Rattle.files.specs.{FaultKind, begins_with, fault_if, known, statement_read, word, words_of, words_read, ◌>>=◌}
use Rattle.files.specs.declared.faults.FaultKind.TheVariants.{NotFirst, Unknown, TooLong}
use Rattle.files.proofs.Passing.{passed, no_fault}
use Rattle.model.specs.{Entry}
use Rattle.record_file.specs.{LineKind, Progress, begins_with_digit, cleared, entry_in, entry_of, first_read, head_read, kind_in, kind_of, line_read, line_said, pair_read, record_grammar}
use Rattle.record_file.specs.scenario.{Opener, Progress as Head, at_version, heading_read, open_read, opener_of}
use Rattle.record_file.specs.scenario.declared.keywords.Opener.TheVariants as opener
use Rattle.record_file.specs.declared.line_kinds.LineKind.TheVariants as kind
use Rattle.judge.specs.{number_in, say_entry}

-- The state after a later line. Without an entry, an ended head stays as it was; with an entry, the head has ended and stays as it was.
abbrev pub Left : Bool → Progress → Progress → Type 0
Left false p now = (now.entry ≡ p.entry) × (p.ended ≡ true → (now.ended ≡ true) × (now.head ≡ p.head))
Left true p now = IsSome now.entry × (now.ended ≡ true) × (now.head ≡ p.head)

-- the value of a successful reading is unique
ok_same : {A : Type 0} (x y : A) → (let r : Result A FaultKind = Ok x in r) ≡ Ok y → x ≡ y
ok_same x y is = cc

-- a line that changes nothing
same_left : (p : Progress) → Left false p p
same_left p = (refl, λ ended. (ended, refl))

-- a heading or an opening pair, which come before all entries
head_left : (p now : Progress) (r : Result Head FaultKind) → (fault_if p.ended NotFirst >>= λ in_place. r >>= λ head. Ok (record p { head = head })) ≡ Ok now → Left false p now
head_left p now r is = by p.ended refl is
  where
    by : (b : Bool) → p.ended ≡ b → (fault_if b NotFirst >>= λ in_place. r >>= λ head. Ok (record p { head = head })) ≡ Ok now → Left false p now
    by true ended is = absurd (cc)
    by false ended is =
        let a = passed r (λ head. Ok (record p { head = head })) now is in
        let same : (let q : Progress = record p { head = a.value } in q) ≡ now = ok_same (record p { head = a.value }) now a.next in
        (ap (λ (p : Progress). p.entry) (sym same), λ over. let no : true ≡ false = sym over ∙ ended in absurd (cc))

-- the meaning of the first word decides whether a line is an entry
abbrev pub is_entry_kind : LineKind → Bool
is_entry_kind kind.Entry = true
is_entry_kind _ = false

-- a line after the first, by the meaning of its first word
said_left : (kind : LineKind) (first : List ℕ) (words : List (List ℕ)) (p now : Progress) → line_said kind first words p ≡ Ok now → Left (is_entry_kind kind) p now
unfolding head_read pair_read
said_left kind.Record first words p now is = absurd (cc)
said_left (kind.Heading heading) first words p now is = head_left p now (heading_read heading words p.head) is
said_left kind.Open first words p now is = by (not (p.head.setup.version == 2)) is
  where
    by : (b : Bool) → (fault_if b Unknown >>= λ in_table. fault_if p.ended NotFirst >>= λ in_place. open_read words p.head >>= λ head. Ok (record p { head = head })) ≡ Ok now → Left false p now
    by true is = absurd (cc)
    by false is = head_left p now (open_read words p.head) is
said_left kind.Entry first words p now is =
    let a = passed (entry_of first words) (λ entry. Ok (record p { ended = true; entry = Some entry })) now is in
    let same : (let q : Progress = record p { ended = true; entry = Some a.value } in q) ≡ now = ok_same (record p { ended = true; entry = Some a.value }) now a.next in
    (subst (λ (q : Progress). IsSome q.entry) same refl, ap (λ (p : Progress). p.ended) (sym same), ap (λ (p : Progress). p.head) (sym same))

-- a first word that scenario files have too
opener_kind : (o : Option Opener) (kind : LineKind) → kind_in o ≡ Some kind → is_entry_kind kind ≡ false
opener_kind o kind.Record is = refl
opener_kind o (kind.Heading heading) is = refl
opener_kind o kind.Open is = refl
opener_kind None kind.Entry is = absurd (cc)
opener_kind (Some (opener.Heading heading)) kind.Entry is = absurd (cc)
opener_kind (Some opener.Open) kind.Entry is = absurd (cc)
opener_kind (Some other) kind.Entry is = absurd (cc)

-- a first word means an entry exactly if it begins with a digit
kind_is : (first : List ℕ) (what : LineKind) → kind_of first ≡ Some what → is_entry_kind what ≡ begins_with_digit first
kind_is first what is = by (begins_with_digit first) is
  where
    other : (b : Bool) → (if b then Some kind.Record else kind_in (opener_of first)) ≡ Some what → is_entry_kind what ≡ false
    other true is = let same : kind.Record ≡ what = cc in ap is_entry_kind (sym same)
    other false is = opener_kind (opener_of first) what is

    by : (b : Bool) → (if b then Some kind.Entry else if bytes_eq first (codes "record") then Some kind.Record else kind_in (opener_of first)) ≡ Some what → is_entry_kind what ≡ b
    by true is = let same : kind.Entry ≡ what = cc in ap is_entry_kind (sym same)
    by false is = other (bytes_eq first (codes "record")) is

-- a line whose first word begins with # is not an entry
skipped : (first : List ℕ) → begins_with 35 first ≡ true → begins_with_digit first ≡ false
skipped [] is = refl
skipped (b ∷ bs) is = grind (arith, nat_tests)

-- a line after the first
pub later_remaining : (words : List (List ℕ)) (p : Progress) (now : Option Progress) → words_read record_grammar words (Some p) ≡ Ok now → (next : Progress) × (now ≡ Some next) × Left (say_entry words) p next
later_remaining [] p now is = (p, sym (ok_same (Some p) now is), same_left p)
later_remaining (first ∷ words) p now is = by (begins_with 35 first) refl is
  where
    kinds : (o : Option LineKind) → kind_of first ≡ o → ((known o >>= λ kind. line_said kind first words p) >>= λ s. Ok (Some s)) ≡ Ok now → (next : Progress) × (now ≡ Some next) × Left (begins_with_digit first) p next
    kinds None of is = absurd (cc)
    kinds (Some kind) of is =
        let a = passed (line_said kind first words p) (λ s. Ok (Some s)) now is in
        (a.value, sym (ok_same (Some a.value) now a.next), subst (λ b. Left b p a.value) (kind_is first kind of) (said_left kind first words p a.value a.first))

    by : (b : Bool) → begins_with 35 first ≡ b → (if b then Ok (Some p) else statement_read record_grammar first words (Some p)) ≡ Ok now → (next : Progress) × (now ≡ Some next) × Left (begins_with_digit first) p next
    by true begins is = (p, sym (ok_same (Some p) now is), subst (λ b. Left b p p) (sym (skipped first begins)) (same_left p))
    by false begins is = kinds (kind_of first) refl is

-- the first line is not an entry
first_says_none : (first : List ℕ) (words : List (List ℕ)) (p : Progress) → first_read first words ≡ Ok p → (p.entry ≡ None) × (begins_with_digit first ≡ false)
unfolding first_read
first_says_none first words p is =
    let a = passed (fault_if (not (bytes_eq first (codes "record")) || not (length words == 1)) NotFirst) (λ named. at_version (word 0 words) >>= λ head. Ok (record { head = head; ended = false; entry = None })) p is in
    let b = passed (at_version (word 0 words)) (λ head. Ok (record { head = head; ended = false; entry = None })) p a.next in
    let named = no_fault (not (bytes_eq first (codes "record")) || not (length words == 1)) NotFirst a.value a.first in
    (ap (λ (p : Progress). p.entry) (sym (ok_same (record { head = b.value; ended = false; entry = None }) p b.next)), by (bytes_eq first (codes "record")) refl named)
  where
    by : (b : Bool) → bytes_eq first (codes "record") ≡ b → (not b || not (length words == 1)) ≡ false → begins_with_digit first ≡ false
    by true same named = ap begins_with_digit ((bytes_eq-Decides first (codes "record")).0 same)
    by false same named = absurd (cc)

pub first_left : (words : List (List ℕ)) (now : Option Progress) → words_read record_grammar words None ≡ Ok now → (entry_in now ≡ []) × (say_entry words ≡ false)
first_left [] now is = (ap entry_in (sym (ok_same None now is)), refl)
first_left (first ∷ words) now is = by (begins_with 35 first) refl is
  where
    by : (b : Bool) → begins_with 35 first ≡ b → (if b then Ok None else statement_read record_grammar first words None) ≡ Ok now → (entry_in now ≡ []) × (begins_with_digit first ≡ false)
    by true begins is = (ap entry_in (sym (ok_same None now is)), skipped first begins)
    by false begins is =
        let a = passed (first_read first words) (λ s. Ok (Some s)) now is in
        let none = first_says_none first words a.value a.first in
        (ap entry_in (sym (ok_same (Some a.value) now a.next)) ∙ ap option_to_list none.0, none.1)

-- a line that is not too long is read by its words
pub short_read : (line : List ℕ) (before : Option Progress) → length line ≤ 128 → line_read line before ≡ words_read record_grammar (words_of line) before
short_read line before short =
    let test : nat_lt 128 (length line) ≡ false = grind (arith, nat_tests) in
    ap (λ t. if t then Err TooLong else words_read record_grammar (words_of line) before) test

-- a line that is too long is refused
pub long_read : (line : List ℕ) (before : Option Progress) → 128 < length line → line_read line before ≡ Err TooLong
long_read line before long =
    let test : nat_lt 128 (length line) ≡ true = grind (arith, nat_tests) in
    ap (λ t. if t then Err TooLong else words_read record_grammar (words_of line) before) test

-- taking the entry twice changes nothing more
pub clear_twice : (now : Option Progress) → cleared (cleared now) ≡ cleared now
clear_twice None = refl
clear_twice (Some p) = refl

-- where no entry was read, there is none to take
pub quiet_is_cleared : (now : Progress) → now.entry ≡ None → Some now ≡ cleared (Some now)
quiet_is_cleared now none = ap (λ (o : Option Entry). Some (record now { entry = o })) none

-- a line has one entry at most
pub few_in : (now : Option Progress) → length (entry_in now) ≤ 1
few_in None = omega arith
few_in (Some p) = by p.entry
  where
    by : (o : Option Entry) → length (option_to_list o) ≤ 1
    by None = omega arith
    by (Some e) = omega arith

-- after the entry of the earlier lines was taken, there is none
pub empty : (p : Progress) → cleared (Some p) ≡ Some p → p.entry ≡ None
empty p clear = ap (λ (o : Option Progress). elim o as (λ _. Option Entry) [ None ↦ None | Some q ↦ q.entry ]) (sym clear)

-- a line that is not an entry has no number among those that are
pub number_of_none : (n : ℕ) (line : List ℕ) (before now : Option Progress) → words_read record_grammar (words_of line) before ≡ Ok now → cleared before ≡ before → entry_in now ≡ [] → number_in n line ≡ []
number_of_none n line None now read clear none = ap (λ b. cond b (n ∷ []) []) (first_left (words_of line) now read).1
number_of_none n line (Some p) now read clear none = by (say_entry (words_of line)) (later_remaining (words_of line) p now read)
  where
    nothing : (o : Option Entry) → option_to_list o ≡ [] → IsSome o → ⊥
    nothing None none some = absurd (cc)
    nothing (Some e) none some = absurd (cc)

    by : (b : Bool) → (next : Progress) × (now ≡ Some next) × Left b p next → cond b (n ∷ []) [] ≡ []
    by false remaining = refl
    by true remaining = absurd (nothing remaining.0.entry (sym (ap entry_in remaining.1) ∙ none) remaining.2.0)

-- a line that is an entry has one
pub number_of_some : (n : ℕ) (line : List ℕ) (before : Option Progress) (now : Progress) (e : Entry) → words_read record_grammar (words_of line) before ≡ Ok (Some now) → cleared before ≡ before → now.entry ≡ Some e → number_in n line ≡ n ∷ []
number_of_some n line None now e read clear says =
    let none : option_to_list now.entry ≡ [] = (first_left (words_of line) (Some now) read).0 in
    let no : e ∷ [] ≡ [] = sym (ap option_to_list says) ∙ none in absurd (cc)
number_of_some n line (Some p) now e read clear says = by (say_entry (words_of line)) (later_remaining (words_of line) p (Some now) read)
  where
    by : (b : Bool) → (next : Progress) × (Some now ≡ Some next) × Left b p next → cond b (n ∷ []) [] ≡ n ∷ []
    by true remaining = refl
    by false remaining =
        let is : Some now ≡ Some remaining.0 = remaining.1 in
        let same : now ≡ remaining.0 = cc in
        let no : Some e ≡ None = sym says ∙ ap (λ (q : Progress). q.entry) same ∙ remaining.2.0 ∙ empty p clear in absurd (cc)
