-- A scenario file that was read specifies the scenario that was read.
use Rattle.std.proofs.Common.{◌≡◌, ℕ, ◌+◌, ◌==◌, ◌&&◌, ◌||◌, not, Bool, true, false, cond, List, [], ◌∷◌, ◌++◌, length, map, codes, Option, Some, None, Ok, refl, ap, sym, subst, ◌∙◌, arith, append_assoc, append-nil}
use Rattle.std.proofs.lemmas.Bool.{and_from}
use Rattle.std.proofs.lemmas.Bool.Decides.{nat_tests}
use Rattle.std.proofs.lemmas.Fmt.{decimal_digit}
use Rattle.std.proofs.lemmas.List.{length-append}
use Rattle.std.proofs.lemmas.Slice.Eq.{bytes_eq-Decides}
use Rattle.std.specs.Fmt.{decimal}
use Rattle.std.specs.Int.{is_in_range}
use Rattle.std.specs.Option.{ok_or}
use Rattle.std.specs.Str.{bytes_eq}
use Rattle.plain_store.specs.{Pair, Setup}
use Rattle.files.specs.{IsWithinLimits, fault_if, file_of, known, said_words, word, ◌>>=◌}
use Rattle.scenario.specs.{Heading, IsScenario, Line, LineWord, Opener, Progress, Says, Script, and_given, default_setup, first_read, heading_word, heading_words, headings_differ, later_read, line_word, line_words, none_given, open_words, opened_read, opener_of, scenario_grammar, scenario_of, script_of, version_of, version_words, with_heading, with_headings, with_pair}
use Rattle.files.specs.declared.faults.FaultKind.TheVariants.{NotFirst}
use Rattle.scenario.specs.declared.keywords.Opener.TheVariants as opener
use Rattle.scenario.proofs.Good.{scenario_at_first}
use Rattle.scenario.proofs.HeadingLists.{are_free, free_less, heading_keeps, headings_keep}
use Rattle.scenario.proofs.LineSpelled.{one_of}
use Rattle.files.proofs.Passing.{passed, no_fault}
use Rattle.files.proofs.Said.{said_read, later_then, first_then, text_said}
use Rattle.scenario.proofs.ScriptSaid.{HeadingSaid, OpenSaid, OtherSaid, heading_said, open_said, other_said, opener_spelled}

-- the lines after the first add headings, then opening pairs, then other lines
record Extends (p q : Progress) (said : List (List (List ℕ))) : Type 0 where
  headings : List (Heading × ℕ)
  pairs : List Pair
  lines : List Line
  words : said ≡ map heading_words headings ++ (map open_words pairs ++ map line_words lines)
  setup : q.setup ≡ record (with_headings headings p.setup) { opening = p.setup.opening ++ pairs }
  kept : q.lines ≡ p.lines ++ lines
  once : headings_differ headings ≡ true
  fresh : are_free p.given headings ≡ true
  scenario : IsScenario (script_of q)
  no_headings : (length p.setup.opening == 0) && (length p.lines == 0) ≡ false → headings ≡ []
  no_pairs : (length p.lines == 0) ≡ false → pairs ≡ []

no_line : (p q : Progress) → IsScenario (script_of p) → p ≡ q → Extends p q []
no_line p q scenario same = record {
  headings = [];
  pairs = [];
  lines = [];
  words = refl;
  setup = ap (λ (p : Progress). p.setup) (sym same) ∙ ap (λ (ps : List Pair). record p.setup { opening = ps }) (sym (append-nil p.setup.opening));
  kept = ap (λ (p : Progress). p.lines) (sym same) ∙ sym (append-nil p.lines);
  once = refl;
  fresh = refl;
  scenario = subst (λ (q : Progress). IsScenario (script_of q)) same scenario;
  no_headings = λ h. refl;
  no_pairs = λ h. refl;
}

heading_more : (h : Heading) (ws : List (List ℕ)) (more : List (List (List ℕ))) (p m q : Progress) → HeadingSaid h ws p m → Extends m q more → Extends p q ((heading_word h ∷ ws) ∷ more)
heading_more h ws more p m q is e =
    let empty : (length p.setup.opening == 0) ≡ true = ap (λ (ps : List Pair). length ps == 0) is.opening in
    let first : (length p.lines == 0) ≡ true = ap (λ (ls : List Line). length ls == 0) is.lines in
    let given : m.given ≡ and_given h p.given = ap (λ (p : Progress). p.given) (sym is.after) in
    let setup : m.setup ≡ with_heading h is.n p.setup = ap (λ (p : Progress). p.setup) (sym is.after) in
    let lines : m.lines ≡ p.lines = ap (λ (p : Progress). p.lines) (sym is.after) in
    let free = free_less h p.given e.headings (ap (λ g. are_free g e.headings) (sym given) ∙ e.fresh) in
    record {
      headings = (h, is.n) ∷ e.headings;
      pairs = e.pairs;
      lines = e.lines;
      words = ap (λ w. (heading_word h ∷ w) ∷ more) is.words ∙ ap (λ ms. heading_words (h, is.n) ∷ ms) e.words;
      setup = e.setup
          ∙ ap (λ (s : Setup). record (with_headings e.headings s) { opening = s.opening ++ e.pairs }) setup
          ∙ ap (λ (ps : List Pair). record (with_headings e.headings (with_heading h is.n p.setup)) { opening = ps ++ e.pairs }) (heading_keeps h is.n p.setup);
      kept = e.kept ∙ ap (λ ls. ls ++ e.lines) lines;
      once = and_from _ _ free.0 e.once;
      fresh = and_from _ _ (ap not is.fresh) free.1;
      scenario = e.scenario;
      no_headings = λ h. absurd (let test : (length p.setup.opening == 0) && (length p.lines == 0) ≡ false = h in grind (arith, nat_tests));
      no_pairs = λ h. absurd (let test : (length p.lines == 0) ≡ false = h in cc);
    }

open_more : (ws : List (List ℕ)) (more : List (List (List ℕ))) (p m q : Progress) → OpenSaid ws p m → Extends m q more → Extends p q ((codes "open" ∷ ws) ∷ more)
open_more ws more p m q is e =
    let first : (length p.lines == 0) ≡ true = ap (λ (ls : List Line). length ls == 0) is.lines in
    let setup : m.setup ≡ with_pair is.pair.0 is.pair.1 p.setup = ap (λ (p : Progress). p.setup) (sym is.after) in
    let lines : m.lines ≡ p.lines = ap (λ (p : Progress). p.lines) (sym is.after) in
    let size : length m.setup.opening ≡ length p.setup.opening + 1 = ap (λ (s : Setup). length s.opening) setup ∙ length-append p.setup.opening (is.pair ∷ []) in
    let none : e.headings ≡ [] = e.no_headings (grind (arith, nat_tests)) in
    record {
      headings = [];
      pairs = is.pair ∷ e.pairs;
      lines = e.lines;
      words = ap (λ w. (codes "open" ∷ w) ∷ more) is.words ∙ ap (λ ms. open_words is.pair ∷ ms) (e.words ∙ ap (λ hs. map heading_words hs ++ (map open_words e.pairs ++ map line_words e.lines)) none);
      setup = e.setup
          ∙ ap (λ hs. record (with_headings hs m.setup) { opening = m.setup.opening ++ e.pairs }) none
          ∙ ap (λ (s : Setup). record s { opening = s.opening ++ e.pairs }) setup
          ∙ ap (λ (ps : List Pair). record p.setup { opening = ps }) (append_assoc p.setup.opening (is.pair ∷ []) e.pairs);
      kept = e.kept ∙ ap (λ ls. ls ++ e.lines) lines;
      once = refl;
      fresh = refl;
      scenario = e.scenario;
      no_headings = λ h. refl;
      no_pairs = λ h. absurd (let test : (length p.lines == 0) ≡ false = h in cc);
    }

line_more : (n : LineWord) (ws : List (List ℕ)) (more : List (List (List ℕ))) (p m q : Progress) → OtherSaid n ws p m → Extends m q more → Extends p q ((line_word n ∷ ws) ∷ more)
line_more n ws more p m q is e =
    let setup : m.setup ≡ p.setup = ap (λ (p : Progress). p.setup) (sym is.after) in
    let lines : m.lines ≡ p.lines ++ is.line ∷ [] = ap (λ (p : Progress). p.lines) (sym is.after) in
    let size : length m.lines ≡ length p.lines + 1 = ap length lines ∙ length-append p.lines (is.line ∷ []) in
    let some : (length m.lines == 0) ≡ false = grind (arith, nat_tests) in
    let no_headings : e.headings ≡ [] = e.no_headings (grind (arith, nat_tests)) in
    let no_pairs : e.pairs ≡ [] = e.no_pairs some in
    record {
      headings = [];
      pairs = [];
      lines = is.line ∷ e.lines;
      words = ap (λ w. w ∷ more) is.words ∙ ap (λ ms. line_words is.line ∷ ms) (e.words ∙ ap (λ hs. map heading_words hs ++ (map open_words e.pairs ++ map line_words e.lines)) no_headings ∙ ap (λ ps. map open_words ps ++ map line_words e.lines) no_pairs);
      setup = e.setup
          ∙ ap (λ hs. record (with_headings hs m.setup) { opening = m.setup.opening ++ e.pairs }) no_headings
          ∙ ap (λ (ps : List Pair). record m.setup { opening = m.setup.opening ++ ps }) no_pairs
          ∙ ap (λ (s : Setup). record s { opening = s.opening ++ [] }) setup;
      kept = e.kept ∙ ap (λ ls. ls ++ e.lines) lines ∙ append_assoc p.lines (is.line ∷ []) e.lines;
      once = refl;
      fresh = refl;
      scenario = e.scenario;
      no_headings = λ h. refl;
      no_pairs = λ h. refl;
    }

one_more_said : (first : List ℕ) (ws : List (List ℕ)) (more : List (List (List ℕ))) (p m q : Progress) → IsScenario (script_of p) → later_read first ws p ≡ Ok m → (IsScenario (script_of m) → Extends m q more) → Extends p q ((first ∷ ws) ∷ more)
one_more_said first ws more p m q scenario read others = by (opener_of first) refl read
  where
    by : (o : Option Opener) → opener_of first ≡ o → (known o >>= λ opener. opened_read opener ws p) ≡ Ok m → Extends p q ((first ∷ ws) ∷ more)
    by None is read = absurd (cc)
    by (Some opener.Bakery) is read = absurd (cc)
    by (Some (opener.Heading h)) is read =
        let one = heading_said h ws p m scenario read in
        subst (λ (w : List ℕ). Extends p q ((w ∷ ws) ∷ more)) (sym (opener_spelled first (opener.Heading h) is)) (heading_more h ws more p m q one (others one.scenario))
    by (Some opener.Open) is read =
        let one = open_said ws p m scenario read in
        subst (λ (w : List ℕ). Extends p q ((w ∷ ws) ∷ more)) (sym (opener_spelled first opener.Open is)) (open_more ws more p m q one (others one.scenario))
    by (Some (opener.Line n)) is read =
        let one = other_said n ws p m scenario read in
        subst (λ (w : List ℕ). Extends p q ((w ∷ ws) ∷ more)) (sym (opener_spelled first (opener.Line n) is)) (line_more n ws more p m q one (others one.scenario))

all_said : (said : List (List (List ℕ))) (p q : Progress) → IsScenario (script_of p) → said_read scenario_grammar said (Some p) ≡ Ok (Some q) → Extends p q said
all_said [] p q scenario read = let same : p ≡ q = cc in no_line p q scenario same
all_said ([] ∷ more) p q scenario read = absurd (cc)
all_said ((first ∷ ws) ∷ more) p q scenario read =
    let a = later_then scenario_grammar first ws more p (Some q) read in
    one_more_said first ws more p a.value q scenario a.first (λ good. all_said more a.value q good a.next)

-- the first line
record FirstSaid (first : List ℕ) (ws : List (List ℕ)) (m : Progress) : Type 0 where
  version : ℕ
  words : first ∷ ws ≡ version_words version
  after : record { given = none_given; setup = default_setup version; lines = [] } ≡ m
  scenario : IsScenario (script_of m)

version_spelled : (w : List ℕ) (v : ℕ) → version_of w ≡ Ok v → (w ≡ decimal v) × (is_in_range 1 2 v ≡ true)
version_spelled w v read = by (bytes_eq w (codes "1")) refl (bytes_eq w (codes "2")) refl read
  where
    by : (s : Bool) → bytes_eq w (codes "1") ≡ s → (t : Bool) → bytes_eq w (codes "2") ≡ t → ok_or (cond s (Some 1) (cond t (Some 2) None)) NotFirst ≡ Ok v → (w ≡ decimal v) × (is_in_range 1 2 v ≡ true)
    by true is t two read = let same : 1 ≡ v = cc in ((bytes_eq-Decides w (codes "1")).0 is ∙ sym (decimal_digit 1 (omega arith)) ∙ ap decimal same, ap (is_in_range 1 2) (sym same))
    by false one true is read = let same : 2 ≡ v = cc in ((bytes_eq-Decides w (codes "2")).0 is ∙ sym (decimal_digit 2 (omega arith)) ∙ ap decimal same, ap (is_in_range 1 2) (sym same))
    by false one false two read = absurd (cc)

first_said : (first : List ℕ) (ws : List (List ℕ)) (m : Progress) → first_read first ws ≡ Ok m → FirstSaid first ws m
unfolding first_read
first_said first ws m read =
    let a = passed (fault_if (not (bytes_eq first (codes "bakery")) || not (length ws == 1)) NotFirst) (λ named. version_of (word 0 ws) >>= λ version. Ok (record { given = none_given; setup = default_setup version; lines = [] })) m read in
    let b = passed (version_of (word 0 ws)) (λ version. Ok (record { given = none_given; setup = default_setup version; lines = [] })) m a.next in
    let last : Ok (record { given = none_given; setup = default_setup b.value; lines = [] }) ≡ Ok m = b.next in
    let same : record { given = none_given; setup = default_setup b.value; lines = [] } ≡ m = cc in
    let test : (not (bytes_eq first (codes "bakery")) || not (length ws == 1)) ≡ false = no_fault _ NotFirst a.value a.first in
    let named : bytes_eq first (codes "bakery") ≡ true = grind (arith, nat_tests) in
    let one : length ws ≡ 1 = grind (arith, nat_tests) in
    let version = version_spelled (word 0 ws) b.value b.first in
    record {
      version = b.value;
      words = ap (λ w. w ∷ ws) ((bytes_eq-Decides first (codes "bakery")).0 named) ∙ ap (λ ws. codes "bakery" ∷ ws) (one_of ws one) ∙ ap (λ w. codes "bakery" ∷ w ∷ []) version.0;
      after = same;
      scenario = subst (λ (q : Progress). IsScenario (script_of q)) same (scenario_at_first b.value version.1);
    }

from_first : (text : List ℕ) (first : List ℕ) (ws : List (List ℕ)) (more : List (List (List ℕ))) (m p : Progress) → IsWithinLimits text → said_words text ≡ (first ∷ ws) ∷ more → FirstSaid first ws m → Extends m p more → Says text (script_of p)
from_first text first ws more m p limits said f e =
    let setup : m.setup ≡ default_setup f.version = ap (λ (p : Progress). p.setup) (sym f.after) in
    let version : p.setup.version ≡ f.version = ap (λ (s : Setup). s.version) e.setup ∙ headings_keep e.headings m.setup ∙ ap (λ (s : Setup). s.version) setup in
    let opening : p.setup.opening ≡ m.setup.opening ++ e.pairs = ap (λ (s : Setup). s.opening) e.setup in
    let pairs : e.pairs ≡ p.setup.opening = sym (opening ∙ ap (λ (s : Setup). s.opening ++ e.pairs) setup) in
    let lines : e.lines ≡ p.lines = sym (e.kept ∙ ap (λ (p : Progress). p.lines ++ e.lines) (sym f.after)) in
    record {
      limits = limits;
      headings = e.headings;
      once = e.once;
      words = said
          ∙ ap (λ ws. ws ∷ more) f.words
          ∙ ap (λ v. version_words v ∷ more) (sym version)
          ∙ ap (λ ms. version_words p.setup.version ∷ ms) (e.words ∙ ap (λ ps. map heading_words e.headings ++ (map open_words ps ++ map line_words e.lines)) pairs ∙ ap (λ ls. map heading_words e.headings ++ (map open_words p.setup.opening ++ map line_words ls)) lines);
      setup = e.setup
          ∙ ap (λ (s : Setup). record (with_headings e.headings s) { opening = m.setup.opening ++ e.pairs }) (setup ∙ ap default_setup (sym version))
          ∙ ap (λ (ps : List Pair). record (with_headings e.headings (default_setup p.setup.version)) { opening = ps }) (sym opening);
      scenario = e.scenario;
    }

all_from_first : (text : List ℕ) (said : List (List (List ℕ))) (p : Progress) → IsWithinLimits text → said_words text ≡ said → said_read scenario_grammar said None ≡ Ok (Some p) → Says text (script_of p)
all_from_first text [] p limits is read = absurd (cc)
all_from_first text ([] ∷ more) p limits is read = absurd (cc)
all_from_first text ((first ∷ ws) ∷ more) p limits is read =
    let a = first_then scenario_grammar first ws more (Some p) read in
    let f = first_said first ws a.value a.first in
    from_first text first ws more a.value p limits is f (all_said more a.value p f.scenario a.next)

-- A file that was read specifies the scenario that was read.
pub script_said : (text : List ℕ) (s : Script) → scenario_of text ≡ Ok s → Says text s
script_said text s read =
    let a = passed (file_of scenario_grammar text) (λ p. Ok (script_of p)) s read in
    let last : Ok (script_of a.value) ≡ Ok s = a.next in
    let same : script_of a.value ≡ s = cc in
    let said = text_said scenario_grammar text a.value a.first in
    subst (Says text) same (all_from_first text (said_words text) a.value said.0 refl said.1)
