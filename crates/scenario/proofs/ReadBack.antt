-- The words of a line are read as the line for which they are printed.
use Rattle.std.proofs.Common.{◌≡◌, ℕ, zero, suc, ◌-◌, ◌<◌, ◌^◌, ◌==◌, ◌&&◌, ◌||◌, not, nat_le, nat_lt, true, false, if◌then◌else◌, List, [], ◌∷◌, length, codes, Some, None, Ok, Err, refl, ap, sym, ◌∙◌, arith}
use Rattle.std.proofs.lemmas.Bool.{and_parts}
use Rattle.std.proofs.lemmas.Bool.Decides.{nat_tests}
use Rattle.std.proofs.lemmas.Fmt.{decimal_digit}
use Rattle.std.specs.Fmt.{decimal, signed_decimal}
use Rattle.std.specs.Int.{is_in_range}
use Rattle.std.specs.Option.{ok_or}
use Rattle.plain_store.specs.{Command, Pair, Setup, Value, fits_i64, is_command, is_name, is_pair, is_value, value_text}
use Rattle.plain_store.specs.declared.commands.Command.TheVariants as command
use Rattle.files.specs.{◌>>=◌, known, fault_if, counted}
use Rattle.scenario.specs.{Given, Heading, Line, LineWord, Progress, Target, Verb, and_given, call_of, command_of, command_words, default_setup, first_read, flick_of, flick_words, go_of, heading_read, heading_word, heading_words, integer_at, is_flick, is_given, is_line, is_line_of, is_verb_of, kept_read, line_of, line_word, line_words, may_open, most_of, name_at, none_given, number_at, open_read, open_words, opened_read, opener_of, operand_count, other_read, pair_read, process_of, scenario_grammar, show_of, step_of, target_word, value_at, verb_at, verb_in, version_of, version_words, wander_of, with_heading, with_pair}
use Rattle.files.specs.declared.faults.FaultKind.TheVariants.{Unknown, NotFirst, Number, BadSetup}
use Rattle.scenario.specs.declared.keywords.Heading.TheVariants.{Processes, Tickets, Stamps, Slots}
use Rattle.scenario.specs.declared.keywords.LineWord.TheVariants as name
use Rattle.scenario.specs.declared.keywords.Opener.TheVariants as opener
use Rattle.scenario.specs.declared.keywords.Verb.TheVariants as verb
use Rattle.choices.specs.{Flick}
use Rattle.choices.specs.declared.Flick.TheVariants as flick
use Rattle.scenario.specs.declared.lines.Line.TheVariants as line
use Rattle.scenario.specs.declared.lines.Target.TheVariants as target
use Rattle.files.proofs.Said.{said_line}
use Rattle.scenario.proofs.Spelled.{number_again, integer_again, name_again, value_again}

-- the number of a process is read again
pub process_again : (p : ℕ) → nat_lt p 256 ≡ true → number_at 255 (decimal p) ≡ Ok p
process_again p small = number_again 255 p (grind (arith, nat_tests)) (grind (arith, nat_tests))

-- the words after the key word of a command
abbrev pub operands_of : Command → List (List ℕ)
operands_of (command.Read name) = name ∷ []
operands_of (command.Write name value) = name ∷ value_text value ∷ []
operands_of (command.Add name by) = name ∷ signed_decimal by ∷ []
operands_of (command.Cas name expected value) = name ∷ value_text expected ∷ value_text value ∷ []
operands_of command.Ask = []

-- a command is read again by them
pub command_again : (c : Command) → is_command c ≡ true → command_of (verb_in c) (operands_of c) ≡ Ok c
unfolding command_of
command_again (command.Read name) good = ap (λ r. r >>= λ n. Ok (command.Read n)) (name_again name good)
command_again (command.Write name value) good =
    let parts = and_parts (is_name name) (is_value value) good in
    ap (λ r. r >>= λ n. value_at (value_text value) >>= λ x. Ok (command.Write n x)) (name_again name parts.0)
    ∙ ap (λ r. r >>= λ x. Ok (command.Write name x)) (value_again value parts.1)
command_again (command.Add name d) good =
    let parts = and_parts (is_name name) (fits_i64 d) good in
    ap (λ r. r >>= λ n. integer_at (signed_decimal d) >>= λ x. Ok (command.Add n x)) (name_again name parts.0)
    ∙ ap (λ r. ok_or r Number >>= λ x. Ok (command.Add name x)) (integer_again d parts.1)
command_again (command.Cas name expected value) good =
    let parts = and_parts (is_name name) (is_value expected && is_value value) good in
    let values = and_parts (is_value expected) (is_value value) parts.1 in
    ap (λ r. r >>= λ n. value_at (value_text expected) >>= λ x. value_at (value_text value) >>= λ y. Ok (command.Cas n x y)) (name_again name parts.0)
    ∙ ap (λ r. r >>= λ x. value_at (value_text value) >>= λ y. Ok (command.Cas name x y)) (value_again expected values.0)
    ∙ ap (λ r. r >>= λ y. Ok (command.Cas name expected y)) (value_again value values.1)
command_again command.Ask good = refl

-- a call, by its parts
call_by : (version p : ℕ) (key : List ℕ) (operands : List (List ℕ)) (v : Verb) (c : Command) → nat_lt p 256 ≡ true → verb_at version key ≡ Ok v → counted (operand_count v) operands ≡ Ok tt → command_of v operands ≡ Ok c → call_of version (decimal p ∷ key ∷ operands) ≡ Ok (line.Call p c)
unfolding call_of
call_by version p key operands v c small verb_is counts command_is =
    ap (λ r. r >>= λ verb. counted (operand_count verb) operands >>= λ counts. number_at 255 (decimal p) >>= λ process. command_of verb operands >>= λ command. Ok (line.Call process command)) verb_is
    ∙ ap (λ r. r >>= λ counts. number_at 255 (decimal p) >>= λ process. command_of v operands >>= λ command. Ok (line.Call process command)) counts
    ∙ ap (λ r. r >>= λ process. command_of v operands >>= λ command. Ok (line.Call process command)) (process_again p small)
    ∙ ap (λ r. r >>= λ command. Ok (line.Call p command)) command_is

call_again : (version p : ℕ) (c : Command) → nat_lt p 256 ≡ true → is_command c ≡ true → is_verb_of version (verb_in c) ≡ true → call_of version (decimal p ∷ command_words c) ≡ Ok (line.Call p c)
call_again version p c small good allowed = by c (command_again c good) allowed
  where
    by : (c : Command) → command_of (verb_in c) (operands_of c) ≡ Ok c → is_verb_of version (verb_in c) ≡ true → call_of version (decimal p ∷ command_words c) ≡ Ok (line.Call p c)
    by (command.Read name) is allowed = call_by version p (codes "read") (operands_of (command.Read name)) verb.Read (command.Read name) small refl refl is
    by (command.Write name value) is allowed = call_by version p (codes "write") (operands_of (command.Write name value)) verb.Write (command.Write name value) small refl refl is
    by (command.Add name d) is allowed = call_by version p (codes "add") (operands_of (command.Add name d)) verb.Add (command.Add name d) small refl refl is
    by (command.Cas name x y) is allowed = call_by version p (codes "cas") (operands_of (command.Cas name x y)) verb.Cas (command.Cas name x y) small refl refl is
    by command.Ask is allowed = call_by version p (codes "ask") [] verb.Ask command.Ask small (ap (λ t. if t then Ok verb.Ask else Err Unknown) allowed) refl is

-- the other lines with operands
step_again : (p n : ℕ) → nat_lt p 256 ≡ true → nat_le n 100000 ≡ true → step_of (decimal p ∷ decimal n ∷ []) ≡ Ok (line.Step p n)
unfolding step_of
step_again p n small few =
    ap (λ r. r >>= λ process. number_at 100000 (decimal n) >>= λ steps. Ok (line.Step process steps)) (process_again p small)
    ∙ ap (λ r. r >>= λ steps. Ok (line.Step p steps)) (number_again 100000 n (grind (arith, nat_tests)) (grind (arith, nat_tests)))

go_again : (p : ℕ) (t : Target) → nat_lt p 256 ≡ true → go_of (decimal p ∷ target_word t ∷ []) ≡ Ok (line.Go p t)
unfolding go_of
go_again p target.Wait small = ap (λ r. r >>= λ process. Ok (line.Go process target.Wait)) (process_again p small)
go_again p target.Inside small = ap (λ r. r >>= λ process. Ok (line.Go process target.Inside)) (process_again p small)
go_again p target.Idle small = ap (λ r. r >>= λ process. Ok (line.Go process target.Idle)) (process_again p small)
go_again p target.Down small = ap (λ r. r >>= λ process. Ok (line.Go process target.Down)) (process_again p small)

lone_again : (p : ℕ) → nat_lt p 256 ≡ true → process_of (decimal p ∷ []) ≡ Ok p
unfolding process_of
lone_again p small = process_again p small

flick_again : (f : Flick) → is_flick f ≡ true → flick_of (flick_words f) ≡ Ok (line.Flick f)
unfolding flick_of
flick_again flick.Zero good = refl
flick_again flick.One good = refl
flick_again (flick.Pcg seed) good = ap (λ r. r >>= λ n. Ok (line.Flick (flick.Pcg n))) (number_again (2 ^ 64 - 1) seed (grind (arith, nat_tests)) (grind (arith, nat_tests)))

wander_again : (n : ℕ) → nat_le n 100000 ≡ true → wander_of (decimal n ∷ []) ≡ Ok (line.Wander n)
unfolding wander_of
wander_again n few = ap (λ r. r >>= λ turns. Ok (line.Wander turns)) (number_again 100000 n (grind (arith, nat_tests)) (grind (arith, nat_tests)))

-- the first word of a line, and the words after it
abbrev pub name_of : Line → LineWord
name_of (line.Call p c) = name.Call
name_of (line.Step p n) = name.Step
name_of (line.Go p t) = name.Go
name_of (line.Fail p) = name.Fail
name_of (line.Withdraw p) = name.Withdraw
name_of (line.Restart p) = name.Restart
name_of (line.Flick f) = name.Flick
name_of (line.Wander n) = name.Wander
name_of line.Show = name.Show

abbrev pub words_behind : Line → List (List ℕ)
words_behind (line.Call p c) = decimal p ∷ command_words c
words_behind (line.Step p n) = decimal p ∷ decimal n ∷ []
words_behind (line.Go p t) = decimal p ∷ target_word t ∷ []
words_behind (line.Fail p) = decimal p ∷ []
words_behind (line.Withdraw p) = decimal p ∷ []
words_behind (line.Restart p) = decimal p ∷ []
words_behind (line.Flick f) = flick_words f
words_behind (line.Wander n) = decimal n ∷ []
words_behind line.Show = []

pub line_words_are : (l : Line) → line_words l ≡ line_word (name_of l) ∷ words_behind l
line_words_are (line.Call p c) = refl
line_words_are (line.Step p n) = refl
line_words_are (line.Go p t) = refl
line_words_are (line.Fail p) = refl
line_words_are (line.Withdraw p) = refl
line_words_are (line.Restart p) = refl
line_words_are (line.Flick f) = refl
line_words_are (line.Wander n) = refl
line_words_are line.Show = refl

-- A line is read again.
pub line_again : (version : ℕ) (l : Line) → is_line l ≡ true → is_line_of version l ≡ true → line_of version (name_of l) (words_behind l) ≡ Ok l
unfolding show_of
line_again version (line.Call p c) good allowed = let parts = and_parts (nat_lt p 256) (is_command c) good in call_again version p c parts.0 parts.1 allowed
line_again version (line.Step p n) good allowed = step_again p n good allowed
line_again version (line.Go p t) good allowed = go_again p t good
line_again version (line.Fail p) good allowed = ap (λ r. r >>= λ p. Ok (line.Fail p)) (lone_again p good)
line_again version (line.Withdraw p) good allowed = ap (λ r. r >>= λ p. Ok (line.Withdraw p)) (lone_again p good)
line_again version (line.Restart p) good allowed = ap (λ r. r >>= λ p. Ok (line.Restart p)) (lone_again p good)
line_again version (line.Flick f) good allowed = flick_again f good
line_again version (line.Wander n) good allowed = wander_again n allowed
line_again version line.Show good allowed = refl

-- key words differ
opener_again : (n : LineWord) → opener_of (line_word n) ≡ Some (opener.Line n)
opener_again name.Call = refl
opener_again name.Step = refl
opener_again name.Go = refl
opener_again name.Fail = refl
opener_again name.Withdraw = refl
opener_again name.Restart = refl
opener_again name.Flick = refl
opener_again name.Wander = refl
opener_again name.Show = refl

same_name : (n m : LineWord) → line_word n ≡ line_word m → n ≡ m
same_name n m is = let same : Some (opener.Line n) ≡ Some (opener.Line m) = sym (opener_again n) ∙ ap opener_of is ∙ opener_again m in cc

-- Words that are printed for a line are read as that line.
pub spelled_line_is_read : (version : ℕ) (n : LineWord) (ws : List (List ℕ)) (l : Line) → line_word n ∷ ws ≡ line_words l → is_line l ≡ true → is_line_of version l ≡ true → line_of version n ws ≡ Ok l
spelled_line_is_read version n ws l is good allowed =
    let words : line_word n ∷ ws ≡ line_word (name_of l) ∷ words_behind l = is ∙ line_words_are l in
    let first : line_word n ≡ line_word (name_of l) = cc in
    let others : ws ≡ words_behind l = cc in
    ap (λ n. line_of version n ws) (same_name n (name_of l) first) ∙ ap (line_of version (name_of l)) others ∙ line_again version l good allowed

-- such a line is read after other lines too
pub line_said_again : (l : Line) (p : Progress) → is_line l ≡ true → is_line_of p.setup.version l ≡ true → said_line scenario_grammar (line_words l) (Some p) ≡ (kept_read l p >>= λ s. Ok (Some s))
unfolding other_read
line_said_again l p good allowed =
    ap (λ ws. said_line scenario_grammar ws (Some p)) (line_words_are l)
    ∙ ap (λ o. (known o >>= λ opener. opened_read opener (words_behind l) p) >>= λ s. Ok (Some s)) (opener_again (name_of l))
    ∙ ap (λ r. (r >>= λ l. kept_read l p) >>= λ s. Ok (Some s)) (line_again p.setup.version l good allowed)

-- An opening pair is read again, if it may be added.
pub open_again : (given : Given) (s : Setup) (name : List ℕ) (value : Value) → s.version ≡ 2 → is_pair (name, value) ≡ true → may_open s name ≡ true → said_line scenario_grammar (open_words (name, value)) (Some (record { given = given; setup = s; lines = [] })) ≡ Ok (Some (record { given = given; setup = with_pair name value s; lines = [] }))
unfolding open_read
open_again given s name value two good free =
    let parts = and_parts (is_name name) (is_value value) good in
    ap (λ v. (fault_if (not (v == 2)) Unknown >>= λ in_table. name_at name >>= λ n. value_at (value_text value) >>= λ x. pair_read n x (record { given = given; setup = s; lines = [] })) >>= λ p. Ok (Some p)) two
    ∙ ap (λ r. (r >>= λ n. value_at (value_text value) >>= λ x. pair_read n x (record { given = given; setup = s; lines = [] })) >>= λ p. Ok (Some p)) (name_again name parts.0)
    ∙ ap (λ r. (r >>= λ x. pair_read name x (record { given = given; setup = s; lines = [] })) >>= λ p. Ok (Some p)) (value_again value parts.1)
    ∙ ap (λ t. (if t then Ok (record { given = given; setup = with_pair name value s; lines = [] }) else Err BadSetup) >>= λ (p : Progress). Ok (Some p)) free

-- A heading is read again, if it was not given before.
heading_again : (h : Heading) (n : ℕ) (given : Given) (s : Setup) → is_given h given ≡ false → s.opening ≡ [] → is_in_range 1 (most_of h s.version) n ≡ true → n < 256 → heading_read h (decimal n ∷ []) (record { given = given; setup = s; lines = [] }) ≡ Ok (record { given = and_given h given; setup = with_heading h n s; lines = [] })
unfolding heading_read
heading_again h n given s fresh none fits small =
    ap (λ t. fault_if (t || not (length s.opening == 0) || false) NotFirst >>= λ in_place. number_at 255 (decimal n) >>= λ m. fault_if (not (is_in_range 1 (most_of h s.version) m)) BadSetup >>= λ fits. Ok (record { given = and_given h given; setup = with_heading h m s; lines = [] })) fresh
    ∙ ap (λ (ps : List Pair). fault_if (not (length ps == 0) || false) NotFirst >>= λ in_place. number_at 255 (decimal n) >>= λ m. fault_if (not (is_in_range 1 (most_of h s.version) m)) BadSetup >>= λ fits. Ok (record { given = and_given h given; setup = with_heading h m s; lines = [] })) none
    ∙ ap (λ r. r >>= λ m. fault_if (not (is_in_range 1 (most_of h s.version) m)) BadSetup >>= λ fits. Ok (record { given = and_given h given; setup = with_heading h m s; lines = [] })) (number_again 255 n (omega arith) (omega arith))
    ∙ ap (λ t. fault_if (not t) BadSetup >>= λ fits. Ok (record { given = and_given h given; setup = with_heading h n s; lines = [] })) fits

-- a heading is read again by its key word
pub heading_said_again : (h : Heading) (n : ℕ) (given : Given) (s : Setup) → is_given h given ≡ false → s.opening ≡ [] → is_in_range 1 (most_of h s.version) n ≡ true → n < 256 → said_line scenario_grammar (heading_words (h, n)) (Some (record { given = given; setup = s; lines = [] })) ≡ Ok (Some (record { given = and_given h given; setup = with_heading h n s; lines = [] }))
heading_said_again h n given s fresh none fits small =
    ap (λ o. (known o >>= λ opener. opened_read opener (decimal n ∷ []) (record { given = given; setup = s; lines = [] })) >>= λ (p : Progress). Ok (Some p)) (key h)
    ∙ ap (λ r. r >>= λ (p : Progress). Ok (Some p)) (heading_again h n given s fresh none fits small)
  where
    key : (h : Heading) → opener_of (heading_word h) ≡ Some (opener.Heading h)
    key Processes = refl
    key Tickets = refl
    key Stamps = refl
    key Slots = refl

-- The version is read again.
pub version_again : (v : ℕ) → is_in_range 1 2 v ≡ true → version_of (decimal v) ≡ Ok v
version_again zero fits = absurd (grind (arith, nat_tests))
version_again (suc zero) fits = ap version_of (decimal_digit 1 (omega arith))
version_again (suc (suc zero)) fits = ap version_of (decimal_digit 2 (omega arith))
version_again (suc (suc (suc v))) fits = absurd (grind (arith, nat_tests))

-- the first line is read again
pub first_again : (v : ℕ) → is_in_range 1 2 v ≡ true → said_line scenario_grammar (version_words v) None ≡ Ok (Some (record { given = none_given; setup = default_setup v; lines = [] }))
unfolding first_read
first_again v fits = ap (λ r. (r >>= λ v. Ok (record { given = none_given; setup = default_setup v; lines = [] })) >>= λ (p : Progress). Ok (Some p)) (version_again v fits)
