-- A line that was read has the words that are printed for it, and operands in range.
use Rattle.std.proofs.Common.{◌≡◌, ℕ, ◌-◌, ◌^◌, nat_le, nat_lt, Bool, true, false, if◌then◌else◌, List, [], ◌∷◌, length, codes, Result, Ok, Err, refl, ap, subst, ◌∙◌, arith}
use Rattle.std.proofs.lemmas.Bool.{and_from}
use Rattle.std.proofs.lemmas.Bool.Decides.{nat_tests}
use Rattle.std.proofs.lemmas.Slice.Eq.{bytes_eq-Decides}
use Rattle.std.specs.Fmt.{decimal}
use Rattle.std.specs.Str.{bytes_eq}
use Rattle.plain_store.specs.{Command, is_command, value_text}
use Rattle.plain_store.specs.declared.commands.Command.TheVariants as command
use Rattle.files.specs.{FaultKind, counted, known, word, ◌>>=◌}
use Rattle.scenario.specs.{Line, LineWord, Verb, call_of, command_of, command_words, flick_of, go_of, integer_at, is_line, is_line_of, is_verb_of, line_of, line_word, line_words, name_at, number_at, operand_count, process_of, show_of, step_of, target_of, value_at, verb_at, verb_in, wander_of}
use Rattle.files.specs.declared.faults.FaultKind.TheVariants.{Unknown}
use Rattle.scenario.specs.declared.keywords.LineWord.TheVariants as opener
use Rattle.scenario.specs.declared.keywords.Verb.TheVariants as verb
use Rattle.choices.specs.declared.Flick.TheVariants as flick
use Rattle.scenario.specs.declared.lines.Line.TheVariants as line
use Rattle.scenario.proofs.OneSpelling.{number_spelled, integer_at_spelled, name_spelled, value_spelled, verb_word, verb_spelled, target_spelled}
use Rattle.files.proofs.Passing.{passed, length_of}

-- words of a known number
pub none_of : (ws : List (List ℕ)) → length ws ≡ 0 → ws ≡ []
none_of [] n = refl
none_of (a ∷ ws) n = absurd (omega (arith, n))

pub one_of : (ws : List (List ℕ)) → length ws ≡ 1 → ws ≡ word 0 ws ∷ []
one_of [] n = absurd (omega (arith, n))
one_of (a ∷ []) n = refl
one_of (a ∷ b ∷ ws) n = absurd (omega (arith, n))

pub two_of : (ws : List (List ℕ)) → length ws ≡ 2 → ws ≡ word 0 ws ∷ word 1 ws ∷ []
two_of [] n = absurd (omega (arith, n))
two_of (a ∷ []) n = absurd (omega (arith, n))
two_of (a ∷ b ∷ []) n = refl
two_of (a ∷ b ∷ c ∷ ws) n = absurd (omega (arith, n))

pub three_of : (ws : List (List ℕ)) → length ws ≡ 3 → ws ≡ word 0 ws ∷ word 1 ws ∷ word 2 ws ∷ []
three_of [] n = absurd (omega (arith, n))
three_of (a ∷ []) n = absurd (omega (arith, n))
three_of (a ∷ b ∷ []) n = absurd (omega (arith, n))
three_of (a ∷ b ∷ c ∷ []) n = refl
three_of (a ∷ b ∷ c ∷ d ∷ ws) n = absurd (omega (arith, n))

-- a value was read
abbrev IsRead : {A : Type 0} → Result A FaultKind → A → Type 0
IsRead r x = r ≡ Ok x

-- a command that was read
pub record CommandSaid (v : Verb) (ws : List (List ℕ)) (c : Command) : Type 0 where
  pub words : verb_word v ∷ ws ≡ command_words c
  pub good : is_command c ≡ true
  pub verb_is : verb_in c ≡ v

command_made : (v : Verb) (ws : List (List ℕ)) (made c : Command) → IsRead (Ok made) c → verb_word v ∷ ws ≡ command_words made → is_command made ≡ true → verb_in made ≡ v → CommandSaid v ws c
command_made v ws made c is words good verb_is = let same : made ≡ c = cc in subst (CommandSaid v ws) same (record { words = words; good = good; verb_is = verb_is })

-- a command, by the words after its key word
pub command_said : (v : Verb) (ws : List (List ℕ)) (u : Unit {0}) (c : Command) → counted (operand_count v) ws ≡ Ok u → command_of v ws ≡ Ok c → CommandSaid v ws c
unfolding command_of
command_said verb.Ask ws u c counts read = command_made verb.Ask ws command.Ask c read (ap (λ ws. codes "ask" ∷ ws) (none_of ws (length_of 0 ws u counts))) refl refl
command_said verb.Read ws u c counts read =
    let a = passed (name_at (word 0 ws)) (λ n. Ok (command.Read n)) c read in
    let name = name_spelled (word 0 ws) a.value a.first in
    command_made verb.Read ws (command.Read a.value) c a.next
    (ap (λ ws. codes "read" ∷ ws) (one_of ws (length_of 1 ws u counts)) ∙ ap (λ w. codes "read" ∷ w ∷ []) name.0)
    name.1 refl
command_said verb.Write ws u c counts read =
    let a = passed (name_at (word 0 ws)) (λ n. value_at (word 1 ws) >>= λ x. Ok (command.Write n x)) c read in
    let b = passed (value_at (word 1 ws)) (λ x. Ok (command.Write a.value x)) c a.next in
    let name = name_spelled (word 0 ws) a.value a.first in
    let value = value_spelled (word 1 ws) b.value b.first in
    command_made verb.Write ws (command.Write a.value b.value) c b.next
    (ap (λ ws. codes "write" ∷ ws) (two_of ws (length_of 2 ws u counts)) ∙ ap (λ w. codes "write" ∷ w ∷ word 1 ws ∷ []) name.0 ∙ ap (λ w. codes "write" ∷ a.value ∷ w ∷ []) value.0)
    (and_from _ _ name.1 value.1) refl
command_said verb.Add ws u c counts read =
    let a = passed (name_at (word 0 ws)) (λ n. integer_at (word 1 ws) >>= λ x. Ok (command.Add n x)) c read in
    let b = passed (integer_at (word 1 ws)) (λ x. Ok (command.Add a.value x)) c a.next in
    let name = name_spelled (word 0 ws) a.value a.first in
    let count = integer_at_spelled (word 1 ws) b.value b.first in
    command_made verb.Add ws (command.Add a.value b.value) c b.next
    (ap (λ ws. codes "add" ∷ ws) (two_of ws (length_of 2 ws u counts)) ∙ ap (λ w. codes "add" ∷ w ∷ word 1 ws ∷ []) name.0 ∙ ap (λ w. codes "add" ∷ a.value ∷ w ∷ []) count.0)
    (and_from _ _ name.1 count.1) refl
command_said verb.Cas ws u c counts read =
    let a = passed (name_at (word 0 ws)) (λ n. value_at (word 1 ws) >>= λ x. value_at (word 2 ws) >>= λ y. Ok (command.Cas n x y)) c read in
    let b = passed (value_at (word 1 ws)) (λ x. value_at (word 2 ws) >>= λ y. Ok (command.Cas a.value x y)) c a.next in
    let d = passed (value_at (word 2 ws)) (λ y. Ok (command.Cas a.value b.value y)) c b.next in
    let name = name_spelled (word 0 ws) a.value a.first in
    let expected = value_spelled (word 1 ws) b.value b.first in
    let value = value_spelled (word 2 ws) d.value d.first in
    command_made verb.Cas ws (command.Cas a.value b.value d.value) c d.next
    (ap (λ ws. codes "cas" ∷ ws) (three_of ws (length_of 3 ws u counts))
    ∙ ap (λ w. codes "cas" ∷ w ∷ word 1 ws ∷ word 2 ws ∷ []) name.0
    ∙ ap (λ w. codes "cas" ∷ a.value ∷ w ∷ word 2 ws ∷ []) expected.0
    ∙ ap (λ w. codes "cas" ∷ a.value ∷ value_text b.value ∷ w ∷ []) value.0)
    (and_from _ _ name.1 (and_from _ _ expected.1 value.1)) refl

-- a line that was read
pub record LineSaid (version : ℕ) (ws : List (List ℕ)) (l : Line) : Type 0 where
  pub words : ws ≡ line_words l
  pub good : is_line l ≡ true
  pub allowed : is_line_of version l ≡ true

line_made : (version : ℕ) (ws : List (List ℕ)) (made l : Line) → IsRead (Ok made) l → ws ≡ line_words made → is_line made ≡ true → is_line_of version made ≡ true → LineSaid version ws l
line_made version ws made l is words good allowed = let same : made ≡ l = cc in subst (LineSaid version ws) same (record { words = words; good = good; allowed = allowed })

-- the number of a process
pub process_spelled : (p : List ℕ) (q : ℕ) → number_at 255 p ≡ Ok q → (p ≡ decimal q) × (nat_lt q 256 ≡ true)
process_spelled p q read =
    let is = number_spelled 255 p q (omega arith) read in
    let within : nat_le q 255 ≡ true = is.1 in
    (is.0, grind (arith, nat_tests))

call_said : (version : ℕ) (ws : List (List ℕ)) (l : Line) → call_of version ws ≡ Ok l → LineSaid version (codes "call" ∷ ws) l
unfolding call_of
call_said version [] l read = absurd (cc)
call_said version (p ∷ []) l read = absurd (cc)
call_said version (p ∷ v ∷ ws) l read =
    let a = passed (verb_at version v) (λ verb. counted (operand_count verb) ws >>= λ counts. number_at 255 p >>= λ process. command_of verb ws >>= λ command. Ok (line.Call process command)) l read in
    let b = passed (counted (operand_count a.value) ws) (λ counts. number_at 255 p >>= λ process. command_of a.value ws >>= λ command. Ok (line.Call process command)) l a.next in
    let d = passed (number_at 255 p) (λ process. command_of a.value ws >>= λ command. Ok (line.Call process command)) l b.next in
    let e = passed (command_of a.value ws) (λ command. Ok (line.Call d.value command)) l d.next in
    let key = verb_spelled version v a.value a.first in
    let process = process_spelled p d.value d.first in
    let command = command_said a.value ws b.value e.value b.first e.first in
    line_made version (codes "call" ∷ p ∷ v ∷ ws) (line.Call d.value e.value) l e.next
    (ap (λ w. codes "call" ∷ w ∷ v ∷ ws) process.0 ∙ ap (λ w. codes "call" ∷ decimal d.value ∷ w ∷ ws) key.0 ∙ ap (λ ws. codes "call" ∷ decimal d.value ∷ ws) command.words)
    (and_from _ _ process.1 command.good)
    (ap (is_verb_of version) command.verb_is ∙ key.1)

step_said : (version : ℕ) (ws : List (List ℕ)) (l : Line) → step_of ws ≡ Ok l → LineSaid version (codes "step" ∷ ws) l
unfolding step_of
step_said version ws l read =
    let a = passed (counted 2 ws) (λ counts. number_at 255 (word 0 ws) >>= λ process. number_at 100000 (word 1 ws) >>= λ steps. Ok (line.Step process steps)) l read in
    let b = passed (number_at 255 (word 0 ws)) (λ process. number_at 100000 (word 1 ws) >>= λ steps. Ok (line.Step process steps)) l a.next in
    let d = passed (number_at 100000 (word 1 ws)) (λ steps. Ok (line.Step b.value steps)) l b.next in
    let process = process_spelled (word 0 ws) b.value b.first in
    let steps = number_spelled 100000 (word 1 ws) d.value (omega arith) d.first in
    line_made version (codes "step" ∷ ws) (line.Step b.value d.value) l d.next
    (ap (λ ws. codes "step" ∷ ws) (two_of ws (length_of 2 ws a.value a.first)) ∙ ap (λ w. codes "step" ∷ w ∷ word 1 ws ∷ []) process.0 ∙ ap (λ w. codes "step" ∷ decimal b.value ∷ w ∷ []) steps.0)
    process.1 steps.1

go_said : (version : ℕ) (ws : List (List ℕ)) (l : Line) → go_of ws ≡ Ok l → LineSaid version (codes "go" ∷ ws) l
unfolding go_of
go_said version [] l read = absurd (cc)
go_said version (p ∷ []) l read = absurd (cc)
go_said version (p ∷ t ∷ more) l read =
    let a = passed (known (target_of t)) (λ target. counted 0 more >>= λ counts. number_at 255 p >>= λ process. Ok (line.Go process target)) l read in
    let b = passed (counted 0 more) (λ counts. number_at 255 p >>= λ process. Ok (line.Go process a.value)) l a.next in
    let d = passed (number_at 255 p) (λ process. Ok (line.Go process a.value)) l b.next in
    let process = process_spelled p d.value d.first in
    line_made version (codes "go" ∷ p ∷ t ∷ more) (line.Go d.value a.value) l d.next
    (ap (λ ws. codes "go" ∷ p ∷ t ∷ ws) (none_of more (length_of 0 more b.value b.first)) ∙ ap (λ w. codes "go" ∷ w ∷ t ∷ []) process.0 ∙ ap (λ w. codes "go" ∷ decimal d.value ∷ w ∷ []) (target_spelled t a.value a.first))
    process.1 refl

lone_said : (ws : List (List ℕ)) (p : ℕ) → process_of ws ≡ Ok p → (ws ≡ decimal p ∷ []) × (nat_lt p 256 ≡ true)
unfolding process_of
lone_said ws p read =
    let a = passed (counted 1 ws) (λ counts. number_at 255 (word 0 ws)) p read in
    let process = process_spelled (word 0 ws) p a.next in
    (one_of ws (length_of 1 ws a.value a.first) ∙ ap (λ w. w ∷ []) process.0, process.1)

flick_said : (version : ℕ) (ws : List (List ℕ)) (l : Line) → flick_of ws ≡ Ok l → LineSaid version (codes "flick" ∷ ws) l
unfolding flick_of
flick_said version [] l read = absurd (cc)
flick_said version (mode ∷ ws) l read = by (bytes_eq mode (codes "0")) refl (bytes_eq mode (codes "1")) refl (bytes_eq mode (codes "pcg")) refl read
  where
    by : (s : Bool) → bytes_eq mode (codes "0") ≡ s → (t : Bool) → bytes_eq mode (codes "1") ≡ t → (r : Bool) → bytes_eq mode (codes "pcg") ≡ r
        → (if s then (counted 0 ws >>= λ counts. Ok (line.Flick flick.Zero)) else if t then (counted 0 ws >>= λ counts. Ok (line.Flick flick.One)) else if r then (counted 1 ws >>= λ counts. number_at (2 ^ 64 - 1) (word 0 ws) >>= λ seed. Ok (line.Flick (flick.Pcg seed))) else Err Unknown) ≡ Ok l → LineSaid version (codes "flick" ∷ mode ∷ ws) l
    by true is t two r three read =
        let a = passed (counted 0 ws) (λ counts. Ok (line.Flick flick.Zero)) l read in
        line_made version (codes "flick" ∷ mode ∷ ws) (line.Flick flick.Zero) l a.next
        (ap (λ w. codes "flick" ∷ w ∷ ws) ((bytes_eq-Decides mode (codes "0")).0 is) ∙ ap (λ ws. codes "flick" ∷ codes "0" ∷ ws) (none_of ws (length_of 0 ws a.value a.first)))
        refl refl
    by false one true is r three read =
        let a = passed (counted 0 ws) (λ counts. Ok (line.Flick flick.One)) l read in
        line_made version (codes "flick" ∷ mode ∷ ws) (line.Flick flick.One) l a.next
        (ap (λ w. codes "flick" ∷ w ∷ ws) ((bytes_eq-Decides mode (codes "1")).0 is) ∙ ap (λ ws. codes "flick" ∷ codes "1" ∷ ws) (none_of ws (length_of 0 ws a.value a.first)))
        refl refl
    by false one false two true is read =
        let a = passed (counted 1 ws) (λ counts. number_at (2 ^ 64 - 1) (word 0 ws) >>= λ seed. Ok (line.Flick (flick.Pcg seed))) l read in
        let b = passed (number_at (2 ^ 64 - 1) (word 0 ws)) (λ seed. Ok (line.Flick (flick.Pcg seed))) l a.next in
        let seed = number_spelled (2 ^ 64 - 1) (word 0 ws) b.value (omega arith) b.first in
        let within : nat_le b.value (2 ^ 64 - 1) ≡ true = seed.1 in
        line_made version (codes "flick" ∷ mode ∷ ws) (line.Flick (flick.Pcg b.value)) l b.next
        (ap (λ w. codes "flick" ∷ w ∷ ws) ((bytes_eq-Decides mode (codes "pcg")).0 is) ∙ ap (λ ws. codes "flick" ∷ codes "pcg" ∷ ws) (one_of ws (length_of 1 ws a.value a.first)) ∙ ap (λ w. codes "flick" ∷ codes "pcg" ∷ w ∷ []) seed.0)
        (grind (arith, nat_tests)) refl
    by false one false two false three read = absurd (cc)

wander_said : (version : ℕ) (ws : List (List ℕ)) (l : Line) → wander_of ws ≡ Ok l → LineSaid version (codes "wander" ∷ ws) l
unfolding wander_of
wander_said version ws l read =
    let a = passed (counted 1 ws) (λ counts. number_at 100000 (word 0 ws) >>= λ turns. Ok (line.Wander turns)) l read in
    let b = passed (number_at 100000 (word 0 ws)) (λ turns. Ok (line.Wander turns)) l a.next in
    let turns = number_spelled 100000 (word 0 ws) b.value (omega arith) b.first in
    line_made version (codes "wander" ∷ ws) (line.Wander b.value) l b.next
    (ap (λ ws. codes "wander" ∷ ws) (one_of ws (length_of 1 ws a.value a.first)) ∙ ap (λ w. codes "wander" ∷ w ∷ []) turns.0)
    refl turns.1

show_said : (version : ℕ) (ws : List (List ℕ)) (l : Line) → show_of ws ≡ Ok l → LineSaid version (codes "show" ∷ ws) l
unfolding show_of
show_said version ws l read =
    let a = passed (counted 0 ws) (λ counts. Ok line.Show) l read in
    line_made version (codes "show" ∷ ws) line.Show l a.next (ap (λ ws. codes "show" ∷ ws) (none_of ws (length_of 0 ws a.value a.first))) refl refl

-- A line that was read.
pub line_said : (version : ℕ) (name : LineWord) (ws : List (List ℕ)) (l : Line) → line_of version name ws ≡ Ok l → LineSaid version (line_word name ∷ ws) l
line_said version opener.Call ws l read = call_said version ws l read
line_said version opener.Step ws l read = step_said version ws l read
line_said version opener.Go ws l read = go_said version ws l read
line_said version opener.Fail ws l read =
    let a = passed (process_of ws) (λ p. Ok (line.Fail p)) l read in
    let process = lone_said ws a.value a.first in
    line_made version (codes "fail" ∷ ws) (line.Fail a.value) l a.next (ap (λ ws. codes "fail" ∷ ws) process.0) process.1 refl
line_said version opener.Withdraw ws l read =
    let a = passed (process_of ws) (λ p. Ok (line.Withdraw p)) l read in
    let process = lone_said ws a.value a.first in
    line_made version (codes "withdraw" ∷ ws) (line.Withdraw a.value) l a.next (ap (λ ws. codes "withdraw" ∷ ws) process.0) process.1 refl
line_said version opener.Restart ws l read =
    let a = passed (process_of ws) (λ p. Ok (line.Restart p)) l read in
    let process = lone_said ws a.value a.first in
    line_made version (codes "restart" ∷ ws) (line.Restart a.value) l a.next (ap (λ ws. codes "restart" ∷ ws) process.0) process.1 refl
line_said version opener.Flick ws l read = flick_said version ws l read
line_said version opener.Wander ws l read = wander_said version ws l read
line_said version opener.Show ws l read = show_said version ws l read
