-- A text that specifies a scenario is read as it, and a printed scenario specifies it.
use Rattle.std.proofs.Common.{◌≡◌, ℕ, ◌+◌, ◌<◌, ◌≤◌, ◌==◌, ◌&&◌, not, nat_le, nat_lt, Bool, true, false, if◌then◌else◌, List, [], ◌∷◌, ◌++◌, length, map, is_some, is_none, Some, None, Ok, Err, refl, ap, sym, ◌∙◌, arith, append_assoc, append-nil, cond}
use Rattle.std.proofs.lemmas.Bool.{and_parts}
use Rattle.std.proofs.lemmas.Bool.Decides.{nat_tests}
use Rattle.std.proofs.lemmas.List.{length-append, length-map}
use Rattle.std.proofs.lemmas.Slice.Eq.{bytes_eq-Decides}
use Rattle.std.specs.Int.{is_in_range}
use Rattle.std.specs.List.{list_all}
use Rattle.std.specs.Str.{bytes_eq}
use Rattle.plain_store.proofs.GoodSetups.{good-checked, few-opening}
use Rattle.plain_store.specs.{Pair, Setup, is_good_opening, is_pair, names_differ, value_at}
use Rattle.files.specs.{◌>>=◌}
use Rattle.scenario.specs.{Given, Heading, IsScenario, Line, Progress, Says, Script, and_given, default_setup, heading_words, headings_differ, headings_of, is_given, is_line, is_line_of, kept_read, line_words, may_open, most_of, none_given, open_words, scenario_grammar, scenario_of, scenario_text, script_of, script_words, with_heading, with_headings, with_pair}
use Rattle.files.specs.declared.faults.FaultKind.TheVariants.{TooLong}
use Rattle.scenario.specs.declared.keywords.Heading.TheVariants.{Processes, Tickets, Stamps, Slots}
use Rattle.scenario.proofs.HeadingLists.{are_free, are_others, free_more, all_given, heading_in, heading_keeps, version_keeps, headings_keep, opening_kept, number_kept, number_set}
use Rattle.scenario.proofs.ReadBack.{line_said_again, open_again, heading_said_again, first_again}
use Rattle.files.proofs.Said.{said_read, text_is_read}
use Rattle.scenario.proofs.ShortLines.{small_heading, heading_fits, script_printable}
use Rattle.scenario.proofs.Spaced.{printed_limits, printed_said}

-- one more line is kept
kept_again : (p : Progress) (l : Line) → length p.lines < 4000 → (kept_read l p >>= λ (s : Progress). Ok (Some s)) ≡ Ok (Some (record p { lines = p.lines ++ l ∷ [] }))
kept_again p l few =
    let test : nat_lt (length p.lines) 4000 ≡ true = grind (arith, nat_tests) in
    ap (λ t. ((if t then Ok (p.lines ++ l ∷ []) else Err TooLong) >>= λ lines. Ok (record p { lines = lines })) >>= λ (s : Progress). Ok (Some s)) test

-- the lines are read one after another
lines_again : (ls : List Line) (p : Progress) → length p.lines + length ls ≤ 4000 → list_all is_line ls ≡ true → list_all (is_line_of p.setup.version) ls ≡ true → said_read scenario_grammar (map line_words ls) (Some p) ≡ Ok (Some (record p { lines = p.lines ++ ls }))
lines_again [] p few good allowed = ap (λ ls. Ok (Some (record p { lines = ls }))) (sym (append-nil p.lines))
lines_again (l ∷ ls) p few good allowed =
    let goods = and_parts (is_line l) (list_all is_line ls) good in
    let may = and_parts (is_line_of p.setup.version l) (list_all (is_line_of p.setup.version) ls) allowed in
    let more : length (p.lines ++ l ∷ []) ≡ length p.lines + 1 = length-append p.lines (l ∷ []) in
    ap (λ r. r >>= said_read scenario_grammar (map line_words ls)) (line_said_again l p goods.0 may.0 ∙ kept_again p l (omega arith))
    ∙ lines_again ls (record p { lines = p.lines ++ l ∷ [] }) (omega (arith, more)) goods.1 may.1
    ∙ ap (λ all. Ok (Some (record p { lines = all }))) (append_assoc p.lines (l ∷ []) ls)

-- a name that is in a list of pairs has a value there
found : (xs : List Pair) (name : List ℕ) (p : Pair) (rest : List Pair) → bytes_eq name p.0 ≡ true → is_none (value_at (xs ++ p ∷ rest) name) ≡ true → ⊥
found [] name p rest same none = let at : is_none (cond (bytes_eq name p.0) (Some p.1) (value_at rest name)) ≡ false = ap (λ t. is_none (cond t (Some p.1) (value_at rest name))) same in absurd (cc)
found (x ∷ xs) name p rest same none = by (found xs name p rest same) (bytes_eq name x.0) none
  where
    by : (is_none (value_at (xs ++ p ∷ rest) name) ≡ true → ⊥) → (t : Bool) → is_none (cond t (Some x.1) (value_at (xs ++ p ∷ rest) name)) ≡ true → ⊥
    by more true none = absurd (cc)
    by more false none = more none

-- a name that comes later in a list of different names has no value before
pub none_before : (done : List Pair) (p : Pair) (rest : List Pair) → names_differ (done ++ p ∷ rest) ≡ true → is_some (value_at done p.0) ≡ false
none_before [] p rest differ = refl
none_before (q ∷ qs) p rest differ =
    by (bytes_eq p.0 q.0) refl (none_before qs p rest (and_parts (is_none (value_at (qs ++ p ∷ rest) q.0)) (names_differ (qs ++ p ∷ rest)) differ).1) (and_parts (is_none (value_at (qs ++ p ∷ rest) q.0)) (names_differ (qs ++ p ∷ rest)) differ).0
  where
    by : (t : Bool) → bytes_eq p.0 q.0 ≡ t → is_some (value_at qs p.0) ≡ false → is_none (value_at (qs ++ p ∷ rest) q.0) ≡ true → is_some (cond (bytes_eq p.0 q.0) (Some q.1) (value_at qs p.0)) ≡ false
    by true same before alone = absurd (found qs q.0 p rest ((bytes_eq-Decides q.0 p.0).1 (sym ((bytes_eq-Decides p.0 q.0).0 same))) alone)
    by false other before alone = ap (λ t. is_some (cond t (Some q.1) (value_at qs p.0))) other ∙ before

-- a pair may be added if there is a slot and its name is new
pub may_add : (s : Setup) (name : List ℕ) → length s.opening < s.slots → is_some (value_at s.opening name) ≡ false → may_open s name ≡ true
may_add s name free new = let test : nat_lt (length s.opening) s.slots ≡ true = grind (arith, nat_tests) in ap (λ t. t && not (is_some (value_at s.opening name))) test ∙ ap not new

-- the opening pairs are read one after another, and then the lines
pairs_again : (given : Given) (ps : List Pair) (ls : List Line) (s : Setup) → length s.opening + length ps ≤ s.slots → (0 < length ps → s.version ≡ 2) → list_all is_pair ps ≡ true → names_differ (s.opening ++ ps) ≡ true → length ls ≤ 4000 → list_all is_line ls ≡ true → list_all (is_line_of s.version) ls ≡ true
    → said_read scenario_grammar (map open_words ps ++ map line_words ls) (Some (record { given = given; setup = s; lines = [] })) ≡ Ok (Some (record { given = given; setup = record s { opening = s.opening ++ ps }; lines = ls }))
pairs_again given [] ls s room two good differ few lines_good allowed =
    lines_again ls (record { given = given; setup = s; lines = [] }) (omega arith) lines_good allowed
    ∙ ap (λ (ps : List Pair). Ok (Some (record { given = given; setup = record s { opening = ps }; lines = ls }))) (sym (append-nil s.opening))
pairs_again given (p ∷ ps) ls s room two good differ few lines_good allowed =
    let goods = and_parts (is_pair p) (list_all is_pair ps) good in
    let more : length (s.opening ++ p ∷ []) ≡ length s.opening + 1 = length-append s.opening (p ∷ []) in
    ap (λ r. r >>= said_read scenario_grammar (map open_words ps ++ map line_words ls)) (open_again given s p.0 p.1 (two (omega arith)) goods.0 (may_add s p.0 (omega arith) (none_before s.opening p ps differ)))
    ∙ pairs_again given ps ls (with_pair p.0 p.1 s) (omega (arith, more)) (λ some. two (omega arith)) goods.1 (ap names_differ (append_assoc s.opening (p ∷ []) ps) ∙ differ) few lines_good allowed
    ∙ ap (λ (all : List Pair). Ok (Some (record { given = given; setup = record s { opening = all }; lines = ls }))) (append_assoc s.opening (p ∷ []) ps)

-- headings are read one after another, if each appears once and the setup that they make is in range
headings_again : (hs : List (Heading × ℕ)) (more : List (List (List ℕ))) (given : Given) (s : Setup) → s.opening ≡ [] → are_free given hs ≡ true → headings_differ hs ≡ true → ((h : Heading) → is_in_range 1 (most_of h s.version) (heading_in h (with_headings hs s)) ≡ true)
    → said_read scenario_grammar (map heading_words hs ++ more) (Some (record { given = given; setup = s; lines = [] })) ≡ said_read scenario_grammar more (Some (record { given = all_given hs given; setup = with_headings hs s; lines = [] }))
headings_again [] more given s none free once fits = refl
headings_again (h ∷ hs) more given s none free once fits =
    let fresh = and_parts (not (is_given h.0 given)) (are_free given hs) free in
    let others = and_parts (are_others h.0 hs) (headings_differ hs) once in
    let test : not (is_given h.0 given) ≡ true = fresh.0 in
    let number : heading_in h.0 (with_headings (h ∷ hs) s) ≡ h.1 = number_kept h.0 hs (with_heading h.0 h.1 s) others.0 ∙ number_set h.0 h.1 s in
    let in_range : is_in_range 1 (most_of h.0 s.version) h.1 ≡ true = ap (is_in_range 1 (most_of h.0 s.version)) (sym number) ∙ fits h.0 in
    ap (λ r. r >>= said_read scenario_grammar (map heading_words hs ++ more)) (heading_said_again h.0 h.1 given s (grind (arith, nat_tests)) none in_range (small_heading h.0 s.version h.1 in_range))
    ∙ headings_again hs more (and_given h.0 given) (with_heading h.0 h.1 s) (heading_keeps h.0 h.1 s ∙ none) (free_more h.0 given hs others.0 fresh.1) others.1
    (λ k. ap (λ v. is_in_range 1 (most_of k v) (heading_in k (with_headings hs (with_heading h.0 h.1 s)))) (version_keeps h.0 h.1 s) ∙ fits k)

-- at first, no heading was given
pub all_free : (hs : List (Heading × ℕ)) → are_free none_given hs ≡ true
all_free [] = refl
all_free (h ∷ hs) = by h.0 (all_free hs)
  where
    by : (k : Heading) → are_free none_given hs ≡ true → (not (is_given k none_given) && are_free none_given hs) ≡ true
    by Processes rest = rest
    by Tickets rest = rest
    by Stamps rest = rest
    by Slots rest = rest

-- only version 2 has opening pairs
pub two_if_open : (version slots : ℕ) (pairs : List Pair) → is_in_range 1 2 version ≡ true → is_good_opening version slots pairs ≡ true → 0 < length pairs → version ≡ 2
two_if_open version slots pairs known good some = by (version == 1) refl good
  where
    by : (b : Bool) → (version == 1) ≡ b → nat_le (length pairs) (if b then 0 else slots) ≡ true → version ≡ 2
    by true is few = let none : length pairs ≤ 0 = grind (arith, nat_tests) in absurd (omega (arith, none, some))
    by false is few = grind (arith, nat_tests)

-- the setup that the headings of a text make
abbrev headed : List (Heading × ℕ) → Script → Setup
headed headings s = with_headings headings (default_setup s.setup.version)

-- A text that specifies a scenario is read as it.
pub says_read : (text : List ℕ) (s : Script) → Says text s → scenario_of text ≡ Ok s
says_read text s is =
    let good = good-checked s.setup is.scenario.good in
    let version : (headed is.headings s).version ≡ s.setup.version = headings_keep is.headings (default_setup s.setup.version) in
    let none : (headed is.headings s).opening ≡ [] = opening_kept is.headings (default_setup s.setup.version) in
    let slots : s.setup.slots ≡ (headed is.headings s).slots = ap (λ (s : Setup). s.slots) is.setup in
    let room : length s.setup.opening ≤ s.setup.slots = few-opening s.setup is.scenario.good in
    let empty : length (headed is.headings s).opening ≡ 0 = ap (λ (ps : List Pair). length ps) none in
    let fits = λ (h : Heading). ap (λ n. is_in_range 1 (most_of h s.setup.version) n) (number_of h) ∙ heading_fits s.setup good h in
    let all = ap (λ ms. said_read scenario_grammar ms None) is.words
    ∙ ap (λ r. r >>= said_read scenario_grammar (map heading_words is.headings ++ (map open_words s.setup.opening ++ map line_words s.lines))) (first_again s.setup.version good.version)
    ∙ headings_again is.headings (map open_words s.setup.opening ++ map line_words s.lines) none_given (default_setup s.setup.version) refl (all_free is.headings) is.once fits
    ∙ pairs_again (all_given is.headings none_given) s.setup.opening s.lines (headed is.headings s) (omega (arith, room, slots, empty)) (λ some. version ∙ two_if_open s.setup.version s.setup.slots s.setup.opening good.version good.opening some) is.scenario.pairs (ap (λ (ps : List Pair). names_differ (ps ++ s.setup.opening)) none ∙ is.scenario.differ) is.scenario.few is.scenario.lines (ap (λ v. list_all (is_line_of v) s.lines) version ∙ is.scenario.allowed)
    ∙ ap (λ (ps : List Pair). Ok (Some (record { given = all_given is.headings none_given; setup = record (headed is.headings s) { opening = ps ++ s.setup.opening }; lines = s.lines }))) none
    ∙ ap (λ (s1 : Setup). Ok (Some (record { given = all_given is.headings none_given; setup = s1; lines = s.lines }))) (sym is.setup) in
    ap (λ r. r >>= λ p. Ok (script_of p)) (text_is_read scenario_grammar text (record { given = all_given is.headings none_given; setup = s.setup; lines = s.lines }) is.limits all)
  where
    number_of : (h : Heading) → heading_in h (headed is.headings s) ≡ heading_in h s.setup
    number_of Processes = ap (λ (s : Setup). s.processes) (sym is.setup)
    number_of Tickets = ap (λ (s : Setup). s.ticket_bits) (sym is.setup)
    number_of Stamps = ap (λ (s : Setup). s.stamp_bits) (sym is.setup)
    number_of Slots = ap (λ (s : Setup). s.slots) (sym is.setup)

-- The text that is printed for a scenario specifies it.
pub printed_says : (s : Script) → IsScenario s → Says (scenario_text s) s
printed_says s is =
    let good = good-checked s.setup is.good in
    let printable = script_printable s good is in
    let room : length s.setup.opening ≤ s.setup.slots = few-opening s.setup is.good in
    let slots : s.setup.slots ≤ 8 = at_most s.setup.slots good.slots in
    let few : length s.lines ≤ 4000 = is.few in
    let pairs : length (map open_words s.setup.opening) ≡ length s.setup.opening = length-map s.setup.opening open_words in
    let lines : length (map line_words s.lines) ≡ length s.lines = length-map s.lines line_words in
    let both : length (map open_words s.setup.opening ++ map line_words s.lines) ≡ length (map open_words s.setup.opening) + length (map line_words s.lines) = length-append (map open_words s.setup.opening) (map line_words s.lines) in
    record {
      limits = printed_limits (script_words s) printable (omega (arith, room, slots, few, pairs, lines, both));
      headings = headings_of s.setup;
      once = refl;
      words = printed_said (script_words s) printable;
      setup = refl;
      scenario = is;
    }
  where
    at_most : (n : ℕ) → is_in_range 1 8 n ≡ true → n ≤ 8
    at_most n fits = grind (arith, nat_tests)

-- A printed scenario is read again.
pub script_again : (s : Script) → IsScenario s → scenario_of (scenario_text s) ≡ Ok s
script_again s is = says_read (scenario_text s) s (printed_says s is)
