-- A printed record is read as that record.
use Rattle.std.proofs.Common.{◌≡◌, ℕ, ◌+◌, ◌<◌, ◌≤◌, ◌==◌, ◌&&◌, not, nat_le, nat_lt, true, false, if◌then◌else◌, List, [], ◌∷◌, ◌++◌, length, map, flat_map, codes, Option, Some, None, Result, Ok, Err, refl, ap, sym, ◌∙◌, arith, append-nil, append_assoc}
use Rattle.std.proofs.lemmas.Bool.{and_from, and_parts}
use Rattle.std.proofs.lemmas.Bool.Decides.{nat_tests}
use Rattle.std.proofs.lemmas.Grind.{flat_map-append}
use Rattle.std.proofs.lemmas.List.{length-append, map-append}
use Rattle.std.proofs.lemmas.List.Folds.{flat_map-map, list_all-append}
use Rattle.std.specs.Fmt.{decimal}
use Rattle.std.specs.Int.{is_in_range}
use Rattle.std.specs.List.{list_all}
use Rattle.plain_store.proofs.GoodSetups.{IsGood, few-opening, good-checked}
use Rattle.plain_store.specs.{Pair, Setup, are_pairs, checked, is_pair, names_differ, value_text}
use Rattle.files.specs.{FaultKind, LineFault, at_line, fault_if, is_said, lines, words_of, words_read, ◌>>=◌}
use Rattle.files.specs.declared.faults.FaultKind.TheVariants.{TooLong, Unknown}
use Rattle.model.specs.{Entry}
use Rattle.scenario.specs.{Given, Heading, Progress as Head, and_given, default_setup, heading_read, heading_words, headings_differ, headings_of, is_given, most_of, none_given, open_read, open_words, printed_line, spaced, with_heading, with_headings, with_pair}
use Rattle.scenario.specs.declared.keywords.Heading.TheVariants.{Processes, Tickets, Stamps, Slots}
use Rattle.scenario.proofs.HeadingLists.{all_given, are_free, are_others, free_more, heading_in, heading_keeps, number_kept, number_set, version_keeps}
use Rattle.scenario.proofs.Printout.{all_free, may_add, none_before, two_if_open}
use Rattle.scenario.proofs.ReadBack.{heading_said_again, open_again, version_again}
use Rattle.scenario.proofs.ShortLines.{heading_fits, script_printable, small_heading}
use Rattle.scenario.proofs.Spaced.{is_printable, is_word, length-spaced, lines_of_words, printable_words, size, words_of_spaced}
use Rattle.record_file.proofs.PrintedWords.{entry_is_words}
use Rattle.record_file.specs.{BeginsRecord, FitLines, IsSetupOfFile, Progress, cleared, entry_in, entry_line, entry_words, first_read, head_read, head_words, line_read, lines_read, pair_read, record_grammar, record_of, record_text, said_by}
use Rattle.record_file.proofs.EntryLines.{entry_of_words}

-- One line.

-- a line of words, of at most 128 bytes
record IsShort (ws : List (List ℕ)) : Type 0 where
  words : list_all is_word ws ≡ true
  short : length (spaced ws) ≤ 128

-- printable words are such a line
short_of : (ws : List (List ℕ)) → is_printable ws ≡ true → IsShort ws
short_of ws is =
    let parts = and_parts (list_all is_word ws) (is_said ws && nat_le (size ws) 128) is in
    let fits : nat_le (size ws) 128 ≡ true = (and_parts (is_said ws) (nat_le (size ws) 128) parts.1).1 in
    let few : size ws ≤ 128 = grind (arith, nat_tests) in
    let within : length (spaced ws) ≤ size ws = length-spaced ws in
    record { words = parts.0; short = omega (arith, few, within) }

-- Such a line is read by its words.
line_again : (ws : List (List ℕ)) (before : Option Progress) → IsShort ws → line_read (spaced ws) before ≡ words_read record_grammar ws before
line_again ws before is =
    let short : length (spaced ws) ≤ 128 = is.short in
    let test : nat_lt 128 (length (spaced ws)) ≡ false = grind (arith, nat_tests) in
    ap (λ t. if t then Err TooLong else words_read record_grammar (words_of (spaced ws)) before) test
    ∙ ap (λ w. words_read record_grammar w before) (words_of_spaced ws is.words)

-- Then the lines after it are read.
line_on : (n : ℕ) (ws : List (List ℕ)) (more : List (List ℕ)) (before now : Option Progress) (entries : List Entry) → IsShort ws → words_read record_grammar ws before ≡ Ok now →
    lines_read n (spaced ws ∷ more) before entries ≡ lines_read (n + 1) more (cleared now) (entries ++ entry_in now)
line_on n ws more before now entries short read =
    ap (λ r. at_line n r >>= λ now. lines_read (n + 1) more (cleared now) (entries ++ entry_in now)) (line_again ws before short ∙ read)

-- The head.

-- the progress before all entries
abbrev at_head : Given → Setup → Option Progress
at_head given s = Some (record { head = record { given = given; setup = s; lines = [] }; ended = false; entry = None })

-- a check whose value is only passed on
handed_on : {S : Type 0} (r : Result S FaultKind) (x : S) → (r >>= λ p. Ok (Some p)) ≡ Ok (Some x) → r ≡ Ok x
handed_on (Ok y) x is = cc
handed_on (Err e) x is = absurd (cc)

-- the first line
version_line : (v : ℕ) → is_in_range 1 2 v ≡ true → words_read record_grammar (codes "record" ∷ decimal v ∷ []) None ≡ Ok (at_head none_given (default_setup v))
unfolding first_read
version_line v fits =
    ap (λ r. ((r >>= λ version. Ok (record { given = none_given; setup = default_setup version; lines = [] })) >>= λ head. Ok (record { head = head; ended = false; entry = None })) >>= λ (s : Progress). Ok (Some s)) (version_again v fits)

-- a heading, by reading a heading of a scenario
heading_by : (h : Heading) (n : ℕ) (given : Given) (s : Setup) → (heading_read h (decimal n ∷ []) (record { given = given; setup = s; lines = [] }) >>= λ p. Ok (Some p)) ≡ Ok (Some (record { given = and_given h given; setup = with_heading h n s; lines = [] })) →
    (head_read h (decimal n ∷ []) (record { head = record { given = given; setup = s; lines = [] }; ended = false; entry = None }) >>= λ p. Ok (Some p)) ≡ Ok (at_head (and_given h given) (with_heading h n s))
unfolding head_read
heading_by h n given s is =
    ap (λ r. (r >>= λ head. Ok (record { head = head; ended = false; entry = None })) >>= λ (p : Progress). Ok (Some p))
    (handed_on (heading_read h (decimal n ∷ []) (record { given = given; setup = s; lines = [] })) (record { given = and_given h given; setup = with_heading h n s; lines = [] }) is)

heading_line : (h : Heading) (n : ℕ) (given : Given) (s : Setup) → is_given h given ≡ false → s.opening ≡ [] → is_in_range 1 (most_of h s.version) n ≡ true → n < 256 → words_read record_grammar (heading_words (h, n)) (at_head given s) ≡ Ok (at_head (and_given h given) (with_heading h n s))
heading_line Processes n given s fresh none fits small = heading_by Processes n given s (heading_said_again Processes n given s fresh none fits small)
heading_line Tickets n given s fresh none fits small = heading_by Tickets n given s (heading_said_again Tickets n given s fresh none fits small)
heading_line Stamps n given s fresh none fits small = heading_by Stamps n given s (heading_said_again Stamps n given s fresh none fits small)
heading_line Slots n given s fresh none fits small = heading_by Slots n given s (heading_said_again Slots n given s fresh none fits small)

-- the result of reading lines
abbrev Read : Type 0
Read = Result (Option Progress × List Entry) LineFault

-- if the lines after headings give a result, the headings and those lines give it too
headings_on : (hs : List (Heading × ℕ)) (more : List (List ℕ)) (given : Given) (s : Setup) (r : Read) → s.opening ≡ [] → are_free given hs ≡ true → headings_differ hs ≡ true → ((h : Heading) → is_in_range 1 (most_of h s.version) (heading_in h (with_headings hs s)) ≡ true) → list_all is_printable (map heading_words hs) ≡ true →
    ((m : ℕ) → lines_read m more (at_head (all_given hs given) (with_headings hs s)) [] ≡ r) → (n : ℕ) → lines_read n (map spaced (map heading_words hs) ++ more) (at_head given s) [] ≡ r
headings_on [] more given s r none free once fits short rest n = rest n
headings_on (h ∷ hs) more given s r none free once fits short rest n =
    let fresh = and_parts (not (is_given h.0 given)) (are_free given hs) free in
    let others = and_parts (are_others h.0 hs) (headings_differ hs) once in
    let shorts = and_parts (is_printable (heading_words h)) (list_all is_printable (map heading_words hs)) short in
    let test : not (is_given h.0 given) ≡ true = fresh.0 in
    let number : heading_in h.0 (with_headings (h ∷ hs) s) ≡ h.1 = number_kept h.0 hs (with_heading h.0 h.1 s) others.0 ∙ number_set h.0 h.1 s in
    let in_range : is_in_range 1 (most_of h.0 s.version) h.1 ≡ true = ap (is_in_range 1 (most_of h.0 s.version)) (sym number) ∙ fits h.0 in
    line_on n (heading_words h) (map spaced (map heading_words hs) ++ more) (at_head given s) (at_head (and_given h.0 given) (with_heading h.0 h.1 s)) [] (short_of (heading_words h) shorts.0)
    (heading_line h.0 h.1 given s (grind (arith, nat_tests)) none in_range (small_heading h.0 s.version h.1 in_range))
    ∙ headings_on hs more (and_given h.0 given) (with_heading h.0 h.1 s) r (heading_keeps h.0 h.1 s ∙ none) (free_more h.0 given hs others.0 fresh.1) others.1
    (λ k. ap (λ v. is_in_range 1 (most_of k v) (heading_in k (with_headings hs (with_heading h.0 h.1 s)))) (version_keeps h.0 h.1 s) ∙ fits k) shorts.1 rest (n + 1)

-- an opening pair, by reading an opening pair of a scenario
pair_by : (name value : List ℕ) (given : Given) (s t : Setup) → s.version ≡ 2 → (open_read (name ∷ value ∷ []) (record { given = given; setup = s; lines = [] }) >>= λ p. Ok (Some p)) ≡ Ok (Some (record { given = given; setup = t; lines = [] })) →
    (pair_read (name ∷ value ∷ []) (record { head = record { given = given; setup = s; lines = [] }; ended = false; entry = None }) >>= λ p. Ok (Some p)) ≡ Ok (at_head given t)
unfolding pair_read
pair_by name value given s t two is =
    ap (λ v. (fault_if (not (v == 2)) Unknown >>= λ in_table. open_read (name ∷ value ∷ []) (record { given = given; setup = s; lines = [] }) >>= λ head. Ok (record { head = head; ended = false; entry = None })) >>= λ (p : Progress). Ok (Some p)) two
    ∙ ap (λ r. (r >>= λ head. Ok (record { head = head; ended = false; entry = None })) >>= λ (p : Progress). Ok (Some p))
    (handed_on (open_read (name ∷ value ∷ []) (record { given = given; setup = s; lines = [] })) (record { given = given; setup = t; lines = [] }) is)

-- if the lines after opening pairs give a result, the pairs and those lines give it too
pairs_on : (ps : List Pair) (more : List (List ℕ)) (given : Given) (s : Setup) (r : Read) → length s.opening + length ps ≤ s.slots → (0 < length ps → s.version ≡ 2) → list_all is_pair ps ≡ true → names_differ (s.opening ++ ps) ≡ true → list_all is_printable (map open_words ps) ≡ true →
    ((m : ℕ) → lines_read m more (at_head given (record s { opening = s.opening ++ ps })) [] ≡ r) → (n : ℕ) → lines_read n (map spaced (map open_words ps) ++ more) (at_head given s) [] ≡ r
pairs_on [] more given s r room two good differ short rest n =
    ap (λ (ps : List Pair). lines_read n more (at_head given (record s { opening = ps })) []) (sym (append-nil s.opening)) ∙ rest n
pairs_on (p ∷ ps) more given s r room two good differ short rest n =
    let goods = and_parts (is_pair p) (list_all is_pair ps) good in
    let shorts = and_parts (is_printable (open_words p)) (list_all is_printable (map open_words ps)) short in
    let longer : length (s.opening ++ p ∷ []) ≡ length s.opening + 1 = length-append s.opening (p ∷ []) in
    let in_two : s.version ≡ 2 = two (omega arith) in
    line_on n (open_words p) (map spaced (map open_words ps) ++ more) (at_head given s) (at_head given (with_pair p.0 p.1 s)) [] (short_of (open_words p) shorts.0)
    (pair_by p.0 (value_text p.1) given s (with_pair p.0 p.1 s) in_two (open_again given s p.0 p.1 in_two goods.0 (may_add s p.0 (omega arith) (none_before s.opening p ps differ))))
    ∙ pairs_on ps more given (with_pair p.0 p.1 s) r (omega (arith, longer)) (λ some. in_two) goods.1 (ap names_differ (append_assoc s.opening (p ∷ []) ps) ∙ differ) shorts.1
    (λ m. ap (λ (all : List Pair). lines_read m more (at_head given (record s { opening = all })) []) (append_assoc s.opening (p ∷ []) ps) ∙ rest m) (n + 1)

-- The entries.

-- the progress after entries
abbrev behind : Progress → List Entry → Progress
behind p [] = p
behind p (e ∷ entries) = behind (record p { ended = true; entry = None }) entries

-- the head stays
head_stays : (p : Progress) (entries : List Entry) → (behind p entries).head ≡ p.head
head_stays p [] = refl
head_stays p (e ∷ entries) = head_stays (record p { ended = true; entry = None }) entries

entries_on : (entries : List Entry) (n : ℕ) (p : Progress) (done : List Entry) → FitLines entries → lines_read n (map spaced (map entry_words entries)) (Some p) done ≡ Ok (Some (behind p entries), done ++ entries)
entries_on [] n p done are = ap (λ (l : List Entry). Ok (Some p, l)) (sym (append-nil done))
entries_on (e ∷ entries) n p done are =
    line_on n (entry_words e) (map spaced (map entry_words entries)) (Some p) (Some (record p { ended = true; entry = Some e })) done (record { words = entry_is_words e are.0.entry.sound; short = are.0.short }) (entry_of_words e p are.0.entry)
    ∙ entries_on entries (n + 1) (record p { ended = true; entry = None }) (done ++ e ∷ []) are.1
    ∙ ap (λ (l : List Entry). Ok (Some (behind p (e ∷ entries)), l)) (append_assoc done (e ∷ []) entries)

-- The whole.

-- all words of a record
abbrev all_words : Setup → List Entry → List (List (List ℕ))
all_words s entries = (codes "record" ∷ decimal s.version ∷ []) ∷ (map heading_words (headings_of s) ++ map open_words s.opening) ++ map entry_words entries

-- the text of a record consists of the lines of these words
text_is : (s : Setup) (entries : List Entry) → record_text s entries ≡ flat_map printed_line (all_words s entries)
text_is s entries = ap (λ t. flat_map printed_line (head_words s) ++ t) (sym (flat_map-map printed_line entry_words entries)) ∙ sym (flat_map-append printed_line (head_words s) (map entry_words entries))

entries_words : (entries : List Entry) → FitLines entries → list_all (list_all is_word) (map entry_words entries) ≡ true
entries_words [] are = refl
entries_words (e ∷ entries) are = and_from _ _ (entry_is_words e are.0.entry.sound) (entries_words entries are.1)

-- the lines of the head, in their order
abbrev heads : Setup → List (List (List ℕ))
heads s = map heading_words (headings_of s) ++ map open_words s.opening

-- the lines of the head are printable
record HeadPrinted (s : Setup) : Type 0 where
  first : is_printable (codes "record" ∷ decimal s.version ∷ []) ≡ true
  headings : list_all is_printable (map heading_words (headings_of s)) ≡ true
  pairs : list_all is_printable (map open_words s.opening) ≡ true

head_printed : (s : Setup) → IsSetupOfFile s → HeadPrinted s
head_printed s is =
    let printed = and_parts (is_printable (codes "bakery" ∷ decimal s.version ∷ [])) (list_all is_printable (map heading_words (headings_of s) ++ (map open_words s.opening ++ []))) (script_printable (record { setup = s; lines = [] }) (good-checked s is.good) is) in
    let parts = and_parts (list_all is_printable (map heading_words (headings_of s))) (list_all is_printable (map open_words s.opening ++ [])) (sym (list_all-append is_printable (map heading_words (headings_of s)) (map open_words s.opening ++ [])) ∙ printed.1) in
    record { first = printed.0; headings = parts.0; pairs = ap (list_all is_printable) (sym (append-nil (map open_words s.opening))) ∙ parts.1 }

-- the lines of a record's text
lines_are : (s : Setup) (entries : List Entry) → IsSetupOfFile s → FitLines entries →
    lines (record_text s entries) ≡ spaced (codes "record" ∷ decimal s.version ∷ []) ∷ (map spaced (map heading_words (headings_of s)) ++ (map spaced (map open_words s.opening) ++ map spaced (map entry_words entries)))
lines_are s entries is are =
    let head = head_printed s is in
    let rest = printable_words (heads s) (list_all-append is_printable (map heading_words (headings_of s)) (map open_words s.opening) ∙ and_from _ _ head.headings head.pairs) in
    let words = and_from _ _ (short_of (codes "record" ∷ decimal s.version ∷ []) head.first).words (list_all-append (list_all is_word) (heads s) (map entry_words entries) ∙ and_from _ _ rest (entries_words entries are)) in
    ap lines (text_is s entries) ∙ lines_of_words (all_words s entries) words
    ∙ ap (λ ls. spaced (codes "record" ∷ decimal s.version ∷ []) ∷ ls) (map-append spaced (heads s) (map entry_words entries)
    ∙ ap (λ ls. ls ++ map spaced (map entry_words entries)) (map-append spaced (map heading_words (headings_of s)) (map open_words s.opening))
    ∙ append_assoc (map spaced (map heading_words (headings_of s))) (map spaced (map open_words s.opening)) (map spaced (map entry_words entries)))

-- the setup that its headings make, and all of it
abbrev headed : Setup → Setup
headed s = with_headings (headings_of s) (default_setup s.version)

abbrev begun_with : Setup → Progress
begun_with s = record { head = record { given = all_given (headings_of s) none_given; setup = s; lines = [] }; ended = false; entry = None }

-- A printed record is read as that record.
pub record_again : (s : Setup) (entries : List Entry) → IsSetupOfFile s → FitLines entries → record_of (record_text s entries) ≡ Ok (record { setup = s; entries = entries })
record_again s entries is are =
    ap (λ ls. lines_read 1 ls None [] >>= said_by (1 + length (lines (record_text s entries)))) (lines_are s entries is are)
    ∙ ap (λ r. r >>= said_by (1 + length (lines (record_text s entries)))) whole
    ∙ ap (λ (h : Head). Ok (record { setup = h.setup; entries = entries })) (head_stays (begun_with s) entries)
  where
    good : IsGood s
    good = good-checked s is.good

    number_of : (h : Heading) → heading_in h (headed s) ≡ heading_in h s
    number_of Processes = refl
    number_of Tickets = refl
    number_of Stamps = refl
    number_of Slots = refl

    rest : List (List ℕ)
    rest = map spaced (map open_words s.opening) ++ map spaced (map entry_words entries)

    room : 0 + length s.opening ≤ s.slots
    room = let few : length s.opening ≤ s.slots = few-opening s is.good in omega (arith, few)

    behind_headings : (m : ℕ) → lines_read m rest (at_head (all_given (headings_of s) none_given) (headed s)) [] ≡ Ok (Some (behind (begun_with s) entries), entries)
    behind_headings = pairs_on s.opening (map spaced (map entry_words entries)) (all_given (headings_of s) none_given) (headed s) (Ok (Some (behind (begun_with s) entries), entries))
        room (λ some. two_if_open s.version s.slots s.opening good.version good.opening some) is.pairs is.differ (head_printed s is).pairs (λ m. entries_on entries m (begun_with s) [] are)

    whole : lines_read 1 (spaced (codes "record" ∷ decimal s.version ∷ []) ∷ (map spaced (map heading_words (headings_of s)) ++ rest)) None [] ≡ Ok (Some (behind (begun_with s) entries), entries)
    whole = line_on 1 (codes "record" ∷ decimal s.version ∷ []) (map spaced (map heading_words (headings_of s)) ++ rest) None (at_head none_given (default_setup s.version)) [] (short_of (codes "record" ∷ decimal s.version ∷ []) (head_printed s is).first) (version_line s.version good.version)
        ∙ headings_on (headings_of s) rest none_given (default_setup s.version) (Ok (Some (behind (begun_with s) entries), entries)) refl (all_free (headings_of s)) refl
        (λ h. ap (λ n. is_in_range 1 (most_of h s.version) n) (number_of h) ∙ heading_fits s good h) (head_printed s is).headings behind_headings 2

-- The head of a record is the beginning of a record.
pub head_begins : (s : Setup) (head : List ℕ) → checked s ≡ Ok tt → are_pairs s.opening ≡ true → head ≡ flat_map printed_line (head_words s) → BeginsRecord s head
head_begins s head good pairs is = λ entries fit. ap (λ (l : List ℕ). record_of (l ++ flat_map entry_line entries)) is ∙ record_again s entries setup fit
  where
    both : (list_all is_pair s.opening ≡ true) × (names_differ s.opening ≡ true)
    both = and_parts (list_all is_pair s.opening) (names_differ s.opening) pairs

    setup : IsSetupOfFile s
    setup = record { good = good; pairs = both.0; differ = both.1; few = omega arith; lines = refl; allowed = refl }
