-- Printed lines are short, of words, and not skipped.
use Rattle.std.proofs.Common.{◌≡◌, ℕ, ◌<◌, ◌≤◌, ◌^◌, ◌==◌, ◌&&◌, not, nat_lt, Bool, true, false, if◌then◌else◌, List, [], ◌∷◌, ◌++◌, length, map, codes, refl, ap, ◌∙◌, arith}
use Rattle.std.proofs.lemmas.Bool.{and_from, and_parts}
use Rattle.std.proofs.lemmas.Bool.Decides.{nat_tests}
use Rattle.std.proofs.lemmas.List.Folds.{list_all-append}
use Rattle.std.specs.Fmt.{decimal, signed_decimal}
use Rattle.std.specs.Int.{is_in_range}
use Rattle.std.specs.List.{list_all}
use Rattle.plain_store.proofs.GoodSetups.{IsGood}
use Rattle.plain_store.specs.{Command, Pair, Setup, fits_i64, is_command, is_name, is_pair, is_value, value_text}
use Rattle.plain_store.specs.declared.commands.Command.TheVariants as command
use Rattle.scenario.specs.{Heading, IsScenario, Line, Script, Target, command_words, is_line, is_line_of, line_words, most_of, open_words, script_words, setup_words, target_word}
use Rattle.files.specs.{begins_with}
use Rattle.scenario.specs.declared.keywords.Heading.TheVariants.{Processes, Tickets, Stamps, Slots}
use Rattle.choices.specs.declared.Flick.TheVariants as flick
use Rattle.scenario.specs.declared.lines.Line.TheVariants as line
use Rattle.scenario.specs.declared.lines.Target.TheVariants as target
use Rattle.scenario.proofs.HeadingLists.{heading_in}
use Rattle.scenario.proofs.Spaced.{is_word, IsLine, is_printable, printable_line}
use Rattle.scenario.proofs.Spelled.{number_word, integer_word, name_word, value_word, number_short, integer_short, name_short, value_short}

-- Each line is short.
open_short : (p : Pair) → is_pair p ≡ true → IsLine (open_words p)
open_short p good =
    let parts = and_parts (is_name p.0) (is_value p.1) good in
    let name : length p.0 ≤ 8 = name_short p.0 parts.0 in
    let value : length (value_text p.1) ≤ 23 = value_short p.1 parts.1 in
    record { words = and_from _ _ (name_word p.0 parts.0) (and_from _ _ (value_word p.1 parts.1) refl); said = refl; short = omega (arith, name, value) }

key_short : (key : List ℕ) (n : ℕ) → is_word key ≡ true → begins_with 35 key ≡ false → length key ≤ 9 → n < 2 ^ 64 → IsLine (key ∷ decimal n ∷ [])
key_short key n word said few small =
    let digits : length (decimal n) ≤ 20 = number_short n small in
    record { words = and_from _ _ word (and_from _ _ (number_word n small) refl); said = ap not said; short = omega (arith, digits, few) }

wide : (p : ℕ) → nat_lt p 256 ≡ true → p < 2 ^ 64
wide p small = grind (arith, nat_tests)

line_short : (version : ℕ) (l : Line) → is_line l ≡ true → is_line_of version l ≡ true → IsLine (line_words l)
line_short version (line.Call q c) good allowed = by c (and_parts (nat_lt q 256) (is_command c) good).1
  where
    q_word : is_word (decimal q) ≡ true
    q_word = number_word q (wide q (and_parts (nat_lt q 256) (is_command c) good).0)

    q_short : length (decimal q) ≤ 20
    q_short = number_short q (wide q (and_parts (nat_lt q 256) (is_command c) good).0)

    by : (c : Command) → is_command c ≡ true → IsLine (codes "call" ∷ decimal q ∷ command_words c)
    by (command.Read name) is =
        let n : length name ≤ 8 = name_short name is in
        let d : length (decimal q) ≤ 20 = q_short in
        record { words = and_from _ _ q_word (and_from _ _ (name_word name is) refl); said = refl; short = omega (arith, n, d) }
    by (command.Write name value) is =
        let parts = and_parts (is_name name) (is_value value) is in
        let n : length name ≤ 8 = name_short name parts.0 in
        let d : length (decimal q) ≤ 20 = q_short in
        let x : length (value_text value) ≤ 23 = value_short value parts.1 in
        record { words = and_from _ _ q_word (and_from _ _ (name_word name parts.0) (and_from _ _ (value_word value parts.1) refl)); said = refl; short = omega (arith, n, d, x) }
    by (command.Add name z) is =
        let parts = and_parts (is_name name) (fits_i64 z) is in
        let n : length name ≤ 8 = name_short name parts.0 in
        let d : length (decimal q) ≤ 20 = q_short in
        let x : length (signed_decimal z) ≤ 21 = integer_short z parts.1 in
        record { words = and_from _ _ q_word (and_from _ _ (name_word name parts.0) (and_from _ _ (integer_word z parts.1) refl)); said = refl; short = omega (arith, n, d, x) }
    by (command.Cas name expected value) is =
        let parts = and_parts (is_name name) (is_value expected && is_value value) is in
        let values = and_parts (is_value expected) (is_value value) parts.1 in
        let n : length name ≤ 8 = name_short name parts.0 in
        let d : length (decimal q) ≤ 20 = q_short in
        let x : length (value_text expected) ≤ 23 = value_short expected values.0 in
        let y : length (value_text value) ≤ 23 = value_short value values.1 in
        record { words = and_from _ _ q_word (and_from _ _ (name_word name parts.0) (and_from _ _ (value_word expected values.0) (and_from _ _ (value_word value values.1) refl))); said = refl; short = omega (arith, n, d, x, y) }
    by command.Ask is =
        let d : length (decimal q) ≤ 20 = q_short in
        record { words = and_from _ _ q_word refl; said = refl; short = omega (arith, d) }
line_short version (line.Step q n) good allowed =
    let many : n < 2 ^ 64 = grind (arith, nat_tests) in
    let d : length (decimal q) ≤ 20 = number_short q (wide q good) in
    let m : length (decimal n) ≤ 20 = number_short n many in
    record { words = and_from _ _ (number_word q (wide q good)) (and_from _ _ (number_word n many) refl); said = refl; short = omega (arith, d, m) }
line_short version (line.Go q t) good allowed = by t
  where
    d : length (decimal q) ≤ 20
    d = number_short q (wide q good)

    w : is_word (decimal q) ≡ true
    w = number_word q (wide q good)

    by : (t : Target) → IsLine (codes "go" ∷ decimal q ∷ target_word t ∷ [])
    by target.Wait = let e : length (decimal q) ≤ 20 = d in record { words = and_from _ _ w refl; said = refl; short = omega (arith, e) }
    by target.Inside = let e : length (decimal q) ≤ 20 = d in record { words = and_from _ _ w refl; said = refl; short = omega (arith, e) }
    by target.Idle = let e : length (decimal q) ≤ 20 = d in record { words = and_from _ _ w refl; said = refl; short = omega (arith, e) }
    by target.Down = let e : length (decimal q) ≤ 20 = d in record { words = and_from _ _ w refl; said = refl; short = omega (arith, e) }
line_short version (line.Fail q) good allowed = key_short (codes "fail") q refl refl (omega arith) (wide q good)
line_short version (line.Withdraw q) good allowed = key_short (codes "withdraw") q refl refl (omega arith) (wide q good)
line_short version (line.Restart q) good allowed = key_short (codes "restart") q refl refl (omega arith) (wide q good)
line_short version (line.Flick flick.Zero) good allowed = record { words = refl; said = refl; short = omega arith }
line_short version (line.Flick flick.One) good allowed = record { words = refl; said = refl; short = omega arith }
line_short version (line.Flick (flick.Pcg seed)) good allowed =
    let small : seed < 2 ^ 64 = grind (arith, nat_tests) in
    let d : length (decimal seed) ≤ 20 = number_short seed small in
    record { words = and_from _ _ (number_word seed small) refl; said = refl; short = omega (arith, d) }
line_short version (line.Wander n) good allowed = key_short (codes "wander") n refl refl (omega arith) (grind (arith, nat_tests))
line_short version line.Show good allowed = record { words = refl; said = refl; short = omega arith }

-- a number in a heading's range has 8 bits
pub small_heading : (h : Heading) (version n : ℕ) → is_in_range 1 (most_of h version) n ≡ true → n < 256
small_heading h version n fits = by h fits
  where
    of : (b : Bool) (few many : ℕ) → few ≤ 255 → many ≤ 255 → is_in_range 1 (if b then few else many) n ≡ true → n < 256
    of true few many fewer more fits = grind (arith, nat_tests)
    of false few many fewer more fits = grind (arith, nat_tests)

    by : (h : Heading) → is_in_range 1 (most_of h version) n ≡ true → n < 256
    by Processes fits = of (version == 1) 8 16 (omega arith) (omega arith) fits
    by Tickets fits = of (version == 1) 16 32 (omega arith) (omega arith) fits
    by Stamps fits = of (version == 1) 16 32 (omega arith) (omega arith) fits
    by Slots fits = grind (arith, nat_tests)

-- the number of each heading of a good setup is in its range
pub heading_fits : (s : Setup) → IsGood s → (h : Heading) → is_in_range 1 (most_of h s.version) (heading_in h s) ≡ true
heading_fits s good Processes = good.processes
heading_fits s good Tickets = good.ticket_bits
heading_fits s good Stamps = good.stamp_bits
heading_fits s good Slots = good.slots

-- the first five lines
setup_printable : (s : Setup) → IsGood s → list_all is_printable (setup_words s) ≡ true
setup_printable s good =
    and_from _ _ (printable_line _ (key_short (codes "bakery") s.version refl refl (omega arith) (version_small s.version good.version)))
    (and_from _ _ (printable_line _ (key_short (codes "processes") s.processes refl refl (omega arith) (small Processes)))
    (and_from _ _ (printable_line _ (key_short (codes "tickets") s.ticket_bits refl refl (omega arith) (small Tickets)))
    (and_from _ _ (printable_line _ (key_short (codes "stamps") s.stamp_bits refl refl (omega arith) (small Stamps)))
    (and_from _ _ (printable_line _ (key_short (codes "slots") s.slots refl refl (omega arith) (small Slots))) refl))))
  where
    version_small : (v : ℕ) → is_in_range 1 2 v ≡ true → v < 2 ^ 64
    version_small v fits = grind (arith, nat_tests)

    small : (h : Heading) → heading_in h s < 2 ^ 64
    small h = let byte : heading_in h s < 256 = small_heading h s.version (heading_in h s) (heading_fits s good h) in omega (arith, byte)

pairs_printable : (ps : List Pair) → list_all is_pair ps ≡ true → list_all is_printable (map open_words ps) ≡ true
pairs_printable [] good = refl
pairs_printable (p ∷ ps) good = let parts = and_parts (is_pair p) (list_all is_pair ps) good in and_from _ _ (printable_line (open_words p) (open_short p parts.0)) (pairs_printable ps parts.1)

lines_printable : (version : ℕ) (ls : List Line) → list_all is_line ls ≡ true → list_all (is_line_of version) ls ≡ true → list_all is_printable (map line_words ls) ≡ true
lines_printable version [] good allowed = refl
lines_printable version (l ∷ ls) good allowed =
    let goods = and_parts (is_line l) (list_all is_line ls) good in
    let may = and_parts (is_line_of version l) (list_all (is_line_of version) ls) allowed in
    and_from _ _ (printable_line (line_words l) (line_short version l goods.0 may.0)) (lines_printable version ls goods.1 may.1)

-- All lines of a scenario are.
pub script_printable : (s : Script) → IsGood s.setup → IsScenario s → list_all is_printable (script_words s) ≡ true
script_printable s good is =
    list_all-append is_printable (setup_words s.setup) (map open_words s.setup.opening ++ map line_words s.lines)
    ∙ and_from _ _ (setup_printable s.setup good)
    (list_all-append is_printable (map open_words s.setup.opening) (map line_words s.lines)
    ∙ and_from _ _ (pairs_printable s.setup.opening is.pairs) (lines_printable s.setup.version s.lines is.lines is.allowed))
