-- A line of a scenario file that was read is spelled as it is printed, and leaves a scenario.
use Rattle.std.proofs.Common.{◌≡◌, ℕ, ◌<◌, ◌==◌, ◌||◌, not, nat_lt, Bool, true, false, if◌then◌else◌, List, [], ◌∷◌, ◌++◌, length, codes, Some, Ok, Err, refl, ap, subst, ◌∙◌, arith}
use Rattle.std.proofs.lemmas.Bool.{and_from}
use Rattle.std.proofs.lemmas.Bool.Decides.{nat_tests}
use Rattle.std.specs.Fmt.{decimal}
use Rattle.std.specs.Int.{is_in_range}
use Rattle.plain_store.specs.{Pair, Value, value_text}
use Rattle.files.specs.{◌>>=◌, fault_if, counted, word}
use Rattle.scenario.specs.{Heading, IsScenario, Line, LineWord, Opener, Progress, and_given, heading_read, heading_word, is_given, kept_read, line_of, line_word, line_words, may_open, most_of, name_at, number_at, open_read, opener_of, openers, other_read, pair_read, script_of, value_at, with_heading, with_pair}
use Rattle.files.specs.declared.faults.FaultKind.TheVariants.{NotFirst, Unknown, BadSetup, TooLong}
use Rattle.scenario.specs.declared.keywords.Opener.TheVariants as opener
use Rattle.scenario.proofs.Good.{scenario_with_heading, scenario_with_pair, scenario_with_line}
use Rattle.scenario.proofs.LineSpelled.{one_of, two_of, line_said}
use Rattle.scenario.proofs.OneSpelling.{number_spelled, name_spelled, value_spelled, found_spelled}
use Rattle.files.proofs.Passing.{passed, no_fault, length_of}

-- the word of an opener
abbrev pub opener_word : Opener → List ℕ
opener_word opener.Bakery = codes "bakery"
opener_word (opener.Heading h) = heading_word h
opener_word opener.Open = codes "open"
opener_word (opener.Line n) = line_word n

pub opener_spelled : (w : List ℕ) (o : Opener) → opener_of w ≡ Some o → w ≡ opener_word o
opener_spelled w o found = found_spelled opener_word w openers o found refl

-- lists of no length
no_items : {X : Type 0} (xs : List X) → (length xs == 0) ≡ true → xs ≡ []
no_items [] none = refl
no_items (x ∷ xs) none = absurd (grind (arith, nat_tests))

-- a heading that was read
pub record HeadingSaid (h : Heading) (ws : List (List ℕ)) (p q : Progress) : Type 0 where
  pub n : ℕ
  pub words : ws ≡ decimal n ∷ []
  pub fresh : is_given h p.given ≡ false
  pub opening : p.setup.opening ≡ []
  pub lines : p.lines ≡ []
  pub after : record p { given = and_given h p.given; setup = with_heading h n p.setup } ≡ q
  pub scenario : IsScenario (script_of q)

pub heading_said : (h : Heading) (ws : List (List ℕ)) (p q : Progress) → IsScenario (script_of p) → heading_read h ws p ≡ Ok q → HeadingSaid h ws p q
unfolding heading_read
heading_said h ws p q scenario read =
    let a = passed (fault_if (is_given h p.given || not (length p.setup.opening == 0) || not (length p.lines == 0)) NotFirst) (λ in_place. counted 1 ws >>= λ counts. number_at 255 (word 0 ws) >>= λ n. fault_if (not (is_in_range 1 (most_of h p.setup.version) n)) BadSetup >>= λ fits. Ok (record p { given = and_given h p.given; setup = with_heading h n p.setup })) q read in
    let b = passed (counted 1 ws) (λ counts. number_at 255 (word 0 ws) >>= λ n. fault_if (not (is_in_range 1 (most_of h p.setup.version) n)) BadSetup >>= λ fits. Ok (record p { given = and_given h p.given; setup = with_heading h n p.setup })) q a.next in
    let d = passed (number_at 255 (word 0 ws)) (λ n. fault_if (not (is_in_range 1 (most_of h p.setup.version) n)) BadSetup >>= λ fits. Ok (record p { given = and_given h p.given; setup = with_heading h n p.setup })) q b.next in
    let e = passed (fault_if (not (is_in_range 1 (most_of h p.setup.version) d.value)) BadSetup) (λ fits. Ok (record p { given = and_given h p.given; setup = with_heading h d.value p.setup })) q d.next in
    let last : Ok (record p { given = and_given h p.given; setup = with_heading h d.value p.setup }) ≡ Ok q = e.next in
    let same : record p { given = and_given h p.given; setup = with_heading h d.value p.setup } ≡ q = cc in
    let place : (is_given h p.given || not (length p.setup.opening == 0) || not (length p.lines == 0)) ≡ false = no_fault _ NotFirst a.value a.first in
    let range : not (is_in_range 1 (most_of h p.setup.version) d.value) ≡ false = no_fault _ BadSetup e.value e.first in
    let opening : p.setup.opening ≡ [] = no_items p.setup.opening (grind (arith, nat_tests)) in
    let lines : p.lines ≡ [] = no_items p.lines (grind (arith, nat_tests)) in
    record {
      n = d.value;
      words = one_of ws (length_of 1 ws b.value b.first) ∙ ap (λ w. w ∷ []) (number_spelled 255 (word 0 ws) d.value (omega arith) d.first).0;
      fresh = grind (arith, nat_tests);
      opening = opening;
      lines = lines;
      after = same;
      scenario = subst (λ (q : Progress). IsScenario (script_of q)) same (scenario_with_heading h d.value (script_of p) scenario opening lines (grind (arith, nat_tests)));
    }

-- an opening pair that was read
pub record OpenSaid (ws : List (List ℕ)) (p q : Progress) : Type 0 where
  pub pair : Pair
  pub words : ws ≡ pair.0 ∷ value_text pair.1 ∷ []
  pub lines : p.lines ≡ []
  pub after : record p { setup = with_pair pair.0 pair.1 p.setup } ≡ q
  pub scenario : IsScenario (script_of q)

pair_said : (name : List ℕ) (value : Value) (p q : Progress) → pair_read name value p ≡ Ok q → (record p { setup = with_pair name value p.setup } ≡ q) × (may_open p.setup name ≡ true)
pair_said name value p q read = by (may_open p.setup name) refl read
  where
    by : (b : Bool) → may_open p.setup name ≡ b → (if b then Ok (record p { setup = with_pair name value p.setup }) else Err BadSetup) ≡ Ok q → (record p { setup = with_pair name value p.setup } ≡ q) × (may_open p.setup name ≡ true)
    by true is read = (cc, is)
    by false is read = absurd (cc)

pub open_said : (ws : List (List ℕ)) (p q : Progress) → IsScenario (script_of p) → open_read ws p ≡ Ok q → OpenSaid ws p q
unfolding open_read
open_said ws p q scenario read =
    let z = passed (fault_if (not (p.setup.version == 2)) Unknown) (λ in_table. fault_if (not (length p.lines == 0)) NotFirst >>= λ in_place. counted 2 ws >>= λ counts. name_at (word 0 ws) >>= λ name. value_at (word 1 ws) >>= λ value. pair_read name value p) q read in
    let a = passed (fault_if (not (length p.lines == 0)) NotFirst) (λ in_place. counted 2 ws >>= λ counts. name_at (word 0 ws) >>= λ name. value_at (word 1 ws) >>= λ value. pair_read name value p) q z.next in
    let b = passed (counted 2 ws) (λ counts. name_at (word 0 ws) >>= λ name. value_at (word 1 ws) >>= λ value. pair_read name value p) q a.next in
    let d = passed (name_at (word 0 ws)) (λ name. value_at (word 1 ws) >>= λ value. pair_read name value p) q b.next in
    let e = passed (value_at (word 1 ws)) (λ value. pair_read d.value value p) q d.next in
    let same = pair_said d.value e.value p q e.next in
    let name = name_spelled (word 0 ws) d.value d.first in
    let value = value_spelled (word 1 ws) e.value e.first in
    let table : not (p.setup.version == 2) ≡ false = no_fault _ Unknown z.value z.first in
    let place : not (length p.lines == 0) ≡ false = no_fault _ NotFirst a.value a.first in
    record {
      pair = (d.value, e.value);
      words = two_of ws (length_of 2 ws b.value b.first) ∙ ap (λ w. w ∷ word 1 ws ∷ []) name.0 ∙ ap (λ w. d.value ∷ w ∷ []) value.0;
      lines = no_items p.lines (grind (arith, nat_tests));
      after = same.0;
      scenario = subst (λ (q : Progress). IsScenario (script_of q)) same.0 (scenario_with_pair (d.value, e.value) (script_of p) scenario (grind (arith, nat_tests)) same.1 (and_from _ _ name.1 value.1));
    }

-- a line that was read
pub record OtherSaid (n : LineWord) (ws : List (List ℕ)) (p q : Progress) : Type 0 where
  pub line : Line
  pub words : line_word n ∷ ws ≡ line_words line
  pub after : record p { lines = p.lines ++ line ∷ [] } ≡ q
  pub scenario : IsScenario (script_of q)

kept_said : (l : Line) (p q : Progress) → kept_read l p ≡ Ok q → (record p { lines = p.lines ++ l ∷ [] } ≡ q) × (length p.lines < 4000)
kept_said l p q read = by (nat_lt (length p.lines) 4000) refl read
  where
    by : (b : Bool) → nat_lt (length p.lines) 4000 ≡ b → ((if b then Ok (p.lines ++ l ∷ []) else Err TooLong) >>= λ lines. Ok (record p { lines = lines })) ≡ Ok q → (record p { lines = p.lines ++ l ∷ [] } ≡ q) × (length p.lines < 4000)
    by true is read = (cc, grind (arith, nat_tests))
    by false is read = absurd (cc)

pub other_said : (n : LineWord) (ws : List (List ℕ)) (p q : Progress) → IsScenario (script_of p) → other_read n ws p ≡ Ok q → OtherSaid n ws p q
unfolding other_read
other_said n ws p q scenario read =
    let a = passed (line_of p.setup.version n ws) (λ line. kept_read line p) q read in
    let same = kept_said a.value p q a.next in
    let is = line_said p.setup.version n ws a.value a.first in
    record {
      line = a.value;
      words = is.words;
      after = same.0;
      scenario = subst (λ (q : Progress). IsScenario (script_of q)) same.0 (scenario_with_line a.value (script_of p) scenario same.1 is.good is.allowed);
    }
