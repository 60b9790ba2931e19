-- Reading keeps a scenario good.
use Rattle.std.proofs.Common.{◌≡◌, ℕ, zero, suc, ◌<◌, ◌+◌, Bool, true, List, [], ◌∷◌, ◌++◌, length, is_some, Ok, refl, ap, ◌∙◌, arith, ◌&&◌, ◌==◌, not, nat_le, nat_lt, if◌then◌else◌}
use Rattle.std.proofs.lemmas.Bool.{and_parts}
use Rattle.std.proofs.lemmas.Bool.Decides.{nat_tests}
use Rattle.std.proofs.lemmas.List.{length-append}
use Rattle.std.proofs.lemmas.List.Folds.{list_all-append}
use Rattle.std.specs.Int.{is_in_range}
use Rattle.std.specs.List.{list_all}
use Rattle.plain_store.specs.{Pair, Setup, Value, checked, checks, is_good_opening, is_pair, names_differ, value_at}
use Rattle.plain_store.proofs.GoodSetups.{all_pass, no_fault}
use Rattle.plain_store.proofs.OpeningPairs.{differ-more}
use Rattle.scenario.specs.{Heading, IsScenario, Line, Script, default_setup, is_line, is_line_of, may_open, most_of, with_heading, with_pair}
use Rattle.scenario.proofs.HeadingLists.{heading_keeps, version_keeps}
use Rattle.scenario.specs.declared.keywords.Heading.TheVariants.{Processes, Tickets, Stamps, Slots}

-- no pairs are a good opening
none_is_good : (version slots : ℕ) (pairs : List Pair) → pairs ≡ [] → is_good_opening version slots pairs ≡ true
none_is_good version slots pairs none = rw none (by (if version == 1 then 0 else slots))
  where
    by : (most : ℕ) → nat_le 0 most ≡ true
    by most = grind (arith, nat_tests)

-- a heading's number in its range
pub good_with_heading : (heading : Heading) (n : ℕ) (setup : Setup) → checked setup ≡ Ok tt → setup.opening ≡ [] → is_in_range 1 (most_of heading setup.version) n ≡ true → checked (with_heading heading n setup) ≡ Ok tt
good_with_heading heading n setup good none fits = by heading (all_pass (checks setup) good) fits
  where
    by : (h : Heading) → list_all (λ c. c.0) (checks setup) ≡ true → is_in_range 1 (most_of h setup.version) n ≡ true → checked (with_heading h n setup) ≡ Ok tt
    by Processes all fits = no_fault (checks (record setup { processes = n })) (grind (arith, nat_tests))
    by Tickets all fits = no_fault (checks (record setup { ticket_bits = n })) (grind (arith, nat_tests))
    by Stamps all fits = no_fault (checks (record setup { stamp_bits = n })) (grind (arith, nat_tests))
    by Slots all fits = let open_ok : is_good_opening setup.version n setup.opening ≡ true = none_is_good setup.version n setup.opening none in no_fault (checks (record setup { slots = n })) (grind (arith, nat_tests))

-- a pair for which there is a slot
pub good_with_pair : (name : List ℕ) (value : Value) (setup : Setup) → checked setup ≡ Ok tt → setup.version ≡ 2 → length setup.opening < setup.slots → checked (with_pair name value setup) ≡ Ok tt
good_with_pair name value setup good two free = let all = all_pass (checks setup) good in let opening = fits setup.version two in no_fault (checks (with_pair name value setup)) (grind (arith, nat_tests))
  where
    fits : (version : ℕ) → version ≡ 2 → is_good_opening version setup.slots (setup.opening ++ (name, value) ∷ []) ≡ true
    fits version two = rw two (let more : length (setup.opening ++ (name, value) ∷ []) ≡ length setup.opening + 1 = length-append setup.opening ((name, value) ∷ []) in grind (arith, nat_tests))

-- a line that the version has
pub all_with_line : {A : Type 0} (p : A → Bool) (xs : List A) (x : A) → list_all p xs ≡ true → p x ≡ true → list_all p (xs ++ x ∷ []) ≡ true
all_with_line p xs x all this = list_all-append p xs (x ∷ []) ∙ ap (λ b. b && (p x && true)) all ∙ ap (λ b. b && true) this

-- A first line.
pub scenario_at_first : (version : ℕ) → is_in_range 1 2 version ≡ true → IsScenario (record { setup = default_setup version; lines = [] })
scenario_at_first version known = record { good = by version known; pairs = refl; differ = refl; few = omega arith; lines = refl; allowed = refl }
  where
    by : (v : ℕ) → is_in_range 1 2 v ≡ true → checked (default_setup v) ≡ Ok tt
    by zero known = absurd (grind (arith, nat_tests))
    by (suc zero) known = refl
    by (suc (suc zero)) known = refl
    by (suc (suc (suc v))) known = absurd (grind (arith, nat_tests))

-- A heading, before all other lines.
pub scenario_with_heading : (heading : Heading) (n : ℕ) (s : Script) → IsScenario s → s.setup.opening ≡ [] → s.lines ≡ [] → is_in_range 1 (most_of heading s.setup.version) n ≡ true → IsScenario (record s { setup = with_heading heading n s.setup })
scenario_with_heading heading n s is none no_lines fits = record {
  good = good_with_heading heading n s.setup is.good none fits;
  pairs = ap (list_all is_pair) (heading_keeps heading n s.setup) ∙ is.pairs;
  differ = ap names_differ (heading_keeps heading n s.setup) ∙ is.differ;
  few = is.few;
  lines = is.lines;
  allowed = ap (λ v. list_all (is_line_of v) s.lines) (version_keeps heading n s.setup) ∙ is.allowed;
}

-- An opening pair.
pub scenario_with_pair : (pair : Pair) (s : Script) → IsScenario s → s.setup.version ≡ 2 → may_open s.setup pair.0 ≡ true → is_pair pair ≡ true → IsScenario (record s { setup = with_pair pair.0 pair.1 s.setup })
scenario_with_pair pair s is two may good =
    let tests = and_parts (nat_lt (length s.setup.opening) s.setup.slots) (not (is_some (value_at s.setup.opening pair.0))) may in
    let free : nat_lt (length s.setup.opening) s.setup.slots ≡ true = tests.0 in
    let new : not (is_some (value_at s.setup.opening pair.0)) ≡ true = tests.1 in
    record {
      good = good_with_pair pair.0 pair.1 s.setup is.good two (grind (arith, nat_tests));
      pairs = all_with_line is_pair s.setup.opening pair is.pairs good;
      differ = differ-more s.setup.opening pair is.differ (grind (arith, nat_tests));
      few = is.few;
      lines = is.lines;
      allowed = is.allowed;
    }

-- One more line.
pub scenario_with_line : (l : Line) (s : Script) → IsScenario s → length s.lines < 4000 → is_line l ≡ true → is_line_of s.setup.version l ≡ true → IsScenario (record s { lines = s.lines ++ l ∷ [] })
scenario_with_line l s is room good allowed =
    let more : length (s.lines ++ l ∷ []) ≡ length s.lines + 1 = length-append s.lines (l ∷ []) in
    record {
      good = is.good;
      pairs = is.pairs;
      differ = is.differ;
      few = omega (arith, more, room);
      lines = all_with_line is_line s.lines l is.lines good;
      allowed = all_with_line (is_line_of s.setup.version) s.lines l is.allowed allowed;
    }
