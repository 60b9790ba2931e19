-- The lines of scenarios are read exactly if they have a form.
use Rattle.std.proofs.Common.{◌≡◌, ℕ, ◌-◌, ◌^◌, ◌==◌, not, ◌&&◌, ◌||◌, Bool, true, false, cond, if◌then◌else◌, List, [], ◌∷◌, length, codes, Option, Some, None, Result, Ok, Err, refl, ap, sym, ◌∙◌, arith}
use Rattle.std.proofs.lemmas.Bool.{and_right}
use Rattle.std.specs.Option.{is_none}
use Rattle.std.specs.Result.{is_ok}
use Rattle.std.specs.Str.{bytes_eq}
use Rattle.plain_store.specs.{Command}
use Rattle.plain_store.specs.declared.commands.Command.TheVariants as command
use Rattle.files.specs.{FaultKind, counted, known, word, ◌>>=◌}
use Rattle.files.specs.declared.faults.FaultKind.TheVariants.{Unknown}
use Rattle.choices.specs.{Flick}
use Rattle.choices.specs.declared.Flick.TheVariants as flick
use Rattle.scenario.specs.{LineWord, Operand, Target, Verb, a_count, a_process, a_seed, are_operands, call_of, command_of, commands, fault_of, fits_form, flick_of, flick_ways, go_of, has_row, integer_at, is_operand, is_verb_of, line_of, name_at, number_at, operand_count, process_of, show_of, stages, step_of, target_of, targets, value_at, verb_of, verbs, wander_of}
use Rattle.scenario.specs.declared.forms.Operand.TheVariants.{Integer, Name, Value}
use Rattle.scenario.specs.declared.keywords.Verb.TheVariants as verb
use Rattle.scenario.specs.declared.lines.Line.{Line}
use Rattle.scenario.specs.declared.lines.Line.TheVariants as line
use Rattle.scenario.specs.declared.lines.Target.TheVariants as target
use Rattle.scenario.proofs.Fitting.{by_rows, fits_alone, is_read, ok_counted, ok_last, ok_operands, ok_then, other_count, row_and}
use Rattle.scenario.proofs.LineSpelled.{none_of, one_of, two_of, three_of}

-- a command, by the words after its key word
pub read_ok : (version : ℕ) (ws : List (List ℕ)) → length ws ≡ 1 → is_ok (command_of verb.Read ws) ≡ are_operands version (Name ∷ []) ws
unfolding command_of
read_ok version ws count = ok_then (name_at (word 0 ws)) (λ n. Ok (command.Read n)) true (λ n. refl) ∙ ap (are_operands version (Name ∷ [])) (sym (one_of ws count))

pub write_ok : (version : ℕ) (ws : List (List ℕ)) → length ws ≡ 2 → is_ok (command_of verb.Write ws) ≡ are_operands version (Name ∷ Value ∷ []) ws
unfolding command_of
write_ok version ws count =
    ok_then (name_at (word 0 ws)) (λ n. value_at (word 1 ws) >>= λ v. Ok (command.Write n v)) (is_none (fault_of (value_at (word 1 ws))) && true) (λ n. ok_then (value_at (word 1 ws)) (λ v. Ok (command.Write n v)) true (λ v. refl))
    ∙ ap (are_operands version (Name ∷ Value ∷ [])) (sym (two_of ws count))

pub add_ok : (version : ℕ) (ws : List (List ℕ)) → length ws ≡ 2 → is_ok (command_of verb.Add ws) ≡ are_operands version (Name ∷ Integer ∷ []) ws
unfolding command_of
add_ok version ws count =
    ok_then (name_at (word 0 ws)) (λ n. integer_at (word 1 ws) >>= λ v. Ok (command.Add n v)) (is_none (fault_of (integer_at (word 1 ws))) && true) (λ n. ok_then (integer_at (word 1 ws)) (λ v. Ok (command.Add n v)) true (λ v. refl))
    ∙ ap (are_operands version (Name ∷ Integer ∷ [])) (sym (two_of ws count))

pub cas_ok : (version : ℕ) (ws : List (List ℕ)) → length ws ≡ 3 → is_ok (command_of verb.Cas ws) ≡ are_operands version (Name ∷ Value ∷ Value ∷ []) ws
unfolding command_of
cas_ok version ws count =
    ok_then (name_at (word 0 ws)) (λ n. value_at (word 1 ws) >>= λ x. value_at (word 2 ws) >>= λ y. Ok (command.Cas n x y)) (is_none (fault_of (value_at (word 1 ws))) && (is_none (fault_of (value_at (word 2 ws))) && true))
    (λ n. ok_then (value_at (word 1 ws)) (λ x. value_at (word 2 ws) >>= λ y. Ok (command.Cas n x y)) (is_none (fault_of (value_at (word 2 ws))) && true) (λ x. ok_then (value_at (word 2 ws)) (λ y. Ok (command.Cas n x y)) true (λ y. refl)))
    ∙ ap (are_operands version (Name ∷ Value ∷ Value ∷ [])) (sym (three_of ws count))

pub ask_ok : (version : ℕ) (ws : List (List ℕ)) → length ws ≡ 0 → is_ok (command_of verb.Ask ws) ≡ are_operands version [] ws
unfolding command_of
ask_ok version ws count = ap (are_operands version []) (sym (none_of ws count))

-- a call of a command with its verb, which is read exactly if its operands are those of its phrase
called : {B : Type 0} (version : ℕ) (v : Verb) (os : List Operand) (p : List ℕ) (ws : List (List ℕ)) (f : ℕ → Command → Result B FaultKind) → operand_count v ≡ length os → (length ws ≡ length os → is_ok (command_of v ws) ≡ are_operands version os ws)
    → ((q : ℕ) (c : Command) → is_ok (f q c) ≡ true) → is_ok (counted (operand_count v) ws >>= λ counts. number_at 255 p >>= λ q. command_of v ws >>= λ c. f q c) ≡ (is_operand version a_process p && are_operands version os ws)
called version v os p ws f count same passes =
    ap (λ n. is_ok (counted n ws >>= λ counts. number_at 255 p >>= λ q. command_of v ws >>= λ c. f q c)) count
    ∙ ok_counted (length os) ws (λ counts. number_at 255 p >>= λ q. command_of v ws >>= λ c. f q c) (is_operand version a_process p && are_operands version os ws)
    (λ n. ok_then (number_at 255 p) (λ q. command_of v ws >>= λ c. f q c) (are_operands version os ws) (λ q. ok_last (command_of v ws) (f q) (passes q) ∙ same n))
    (λ differ. and_right (is_operand version a_process p) (are_operands version os ws) (other_count version os ws differ))

-- `call p COMMAND`, after its verb
abbrev called_by : List ℕ → List (List ℕ) → Verb → Result Line FaultKind
called_by p ws v = counted (operand_count v) ws >>= λ counts. number_at 255 p >>= λ process. command_of v ws >>= λ command. Ok (line.Call process command)

call_made : (version : ℕ) (v : Verb) (os : List Operand) (p : List ℕ) (ws : List (List ℕ)) → operand_count v ≡ length os → (length ws ≡ length os → is_ok (command_of v ws) ≡ are_operands version os ws) → is_ok (called_by p ws v) ≡ (is_operand version a_process p && are_operands version os ws)
call_made version v os p ws count same = called version v os p ws (λ q c. Ok (line.Call q c)) count same (λ q c. refl)

-- version 2 alone has `ask`
asked : (version : ℕ) (p : List ℕ) (ws : List (List ℕ)) → is_ok ((if version == 2 then Ok verb.Ask else Err Unknown) >>= called_by p ws) ≡ ((version == 2) && (is_operand version a_process p && are_operands version [] ws))
asked version p ws =
    elim (version == 2) as (λ b. is_ok ((if b then Ok verb.Ask else Err Unknown) >>= called_by p ws) ≡ (b && (is_operand version a_process p && are_operands version [] ws)))
    [ true ↦ call_made version verb.Ask [] p ws refl (ask_ok version ws) | false ↦ refl ]

pub call_ok : (version : ℕ) (ws : List (List ℕ)) → is_ok (call_of version ws) ≡ fits_form version (a_process ∷ []) commands ws
unfolding call_of
call_ok version [] = refl
call_ok version (p ∷ []) = sym (and_right (is_operand version a_process p) false refl)
call_ok version (p ∷ v ∷ ws) =
    by_rows version (λ os ws. is_operand version a_process p && are_operands version os ws) (λ o. is_ok ((known o >>= λ verb. if is_verb_of version verb then Ok verb else Err Unknown) >>= called_by p ws)) v ws refl verbs commands (
      refl,
      call_made version verb.Read (Name ∷ []) p ws refl (read_ok version ws),
      (
        refl,
        call_made version verb.Write (Name ∷ Value ∷ []) p ws refl (write_ok version ws),
        (
          refl,
          call_made version verb.Add (Name ∷ Integer ∷ []) p ws refl (add_ok version ws),
          (
            refl,
            call_made version verb.Cas (Name ∷ Value ∷ Value ∷ []) p ws refl (cas_ok version ws),
            (refl, asked version p ws, tt),
          ),
        ),
      ),
    )
    ∙ row_and version (λ os ws. are_operands version os ws) (is_operand version a_process p) commands v ws

-- `step p n`
pub step_ok : (version : ℕ) (ws : List (List ℕ)) → is_ok (step_of ws) ≡ fits_form version (a_process ∷ a_count ∷ []) [] ws
unfolding step_of
step_ok version ws =
    ok_operands version (a_process ∷ a_count ∷ []) ws (λ counts. number_at 255 (word 0 ws) >>= λ p. number_at 100000 (word 1 ws) >>= λ n. Ok (line.Step p n))
    (λ count. ok_then (number_at 255 (word 0 ws)) (λ p. number_at 100000 (word 1 ws) >>= λ n. Ok (line.Step p n)) (is_none (fault_of (number_at 100000 (word 1 ws))) && true) (λ p. ok_then (number_at 100000 (word 1 ws)) (λ n. Ok (line.Step p n)) true (λ n. refl))
    ∙ ap (are_operands version (a_process ∷ a_count ∷ [])) (sym (two_of ws count)))
    ∙ fits_alone version (a_process ∷ a_count ∷ []) ws

-- `go p STAGE`, after its stage
abbrev gone_to : List ℕ → List (List ℕ) → Target → Result Line FaultKind
gone_to p ws target = counted 0 ws >>= λ counts. number_at 255 p >>= λ process. Ok (line.Go process target)

gone : (version : ℕ) (target : Target) (p : List ℕ) (ws : List (List ℕ)) → is_ok (gone_to p ws target) ≡ (is_operand version a_process p && are_operands version [] ws)
gone version target p ws =
    ok_counted 0 ws (λ counts. number_at 255 p >>= λ process. Ok (line.Go process target)) (is_operand version a_process p && are_operands version [] ws)
    (λ count. ok_then (number_at 255 p) (λ process. Ok (line.Go process target)) true (λ q. refl) ∙ ap (λ ws. is_operand version a_process p && are_operands version [] ws) (sym (none_of ws count)))
    (λ differ. and_right (is_operand version a_process p) (are_operands version [] ws) (other_count version [] ws differ))

pub go_ok : (version : ℕ) (ws : List (List ℕ)) → is_ok (go_of ws) ≡ fits_form version (a_process ∷ []) stages ws
unfolding go_of
go_ok version [] = refl
go_ok version (p ∷ []) = sym (and_right (is_operand version a_process p) false refl)
go_ok version (p ∷ t ∷ ws) =
    by_rows version (λ os ws. is_operand version a_process p && are_operands version os ws) (λ o. is_ok (known o >>= gone_to p ws)) t ws refl targets stages
    (refl, gone version target.Wait p ws, (refl, gone version target.Inside p ws, (refl, gone version target.Idle p ws, (refl, gone version target.Down p ws, tt))))
    ∙ row_and version (λ os ws. are_operands version os ws) (is_operand version a_process p) stages t ws

-- `fail p`, `withdraw p` and `restart p`
pub process_ok : (version : ℕ) (ws : List (List ℕ)) (f : ℕ → Line) → is_ok (process_of ws >>= λ p. Ok (f p)) ≡ fits_form version (a_process ∷ []) [] ws
unfolding process_of
process_ok version ws f =
    ok_last (process_of ws) (λ p. Ok (f p)) (λ p. refl)
    ∙ ok_operands version (a_process ∷ []) ws (λ counts. number_at 255 (word 0 ws)) (λ count. is_read (number_at 255 (word 0 ws)) ∙ ap (are_operands version (a_process ∷ [])) (sym (one_of ws count)))
    ∙ fits_alone version (a_process ∷ []) ws

-- `flick 0`, `flick 1`, `flick pcg n`
abbrev seeded : List (List ℕ) → Result Line FaultKind
seeded ws = counted 1 ws >>= λ counts. number_at (2 ^ 64 - 1) (word 0 ws) >>= λ seed. Ok (line.Flick (flick.Pcg seed))

seeded_ok : (version : ℕ) (ws : List (List ℕ)) → is_ok (seeded ws) ≡ are_operands version (a_seed ∷ []) ws
seeded_ok version ws = ok_operands version (a_seed ∷ []) ws (λ counts. number_at (2 ^ 64 - 1) (word 0 ws) >>= λ seed. Ok (line.Flick (flick.Pcg seed)))
    (λ count. ok_then (number_at (2 ^ 64 - 1) (word 0 ws)) (λ seed. Ok (line.Flick (flick.Pcg seed))) true (λ seed. refl) ∙ ap (are_operands version (a_seed ∷ [])) (sym (one_of ws count)))

abbrev lone_flick : Flick → List (List ℕ) → Result Line FaultKind
lone_flick way ws = counted 0 ws >>= λ counts. Ok (line.Flick way)

lone_flick_ok : (version : ℕ) (way : Flick) (ws : List (List ℕ)) → is_ok (lone_flick way ws) ≡ are_operands version [] ws
lone_flick_ok version way ws = ok_operands version [] ws (λ counts. Ok (line.Flick way)) (λ count. ap (are_operands version []) (sym (none_of ws count)))

pub flick_ok : (version : ℕ) (ws : List (List ℕ)) → is_ok (flick_of ws) ≡ fits_form version [] flick_ways ws
unfolding flick_of
flick_ok version [] = refl
flick_ok version (mode ∷ ws) =
    elim (bytes_eq mode (codes "0")) as (λ b. is_ok (if b then lone_flick flick.Zero ws else if bytes_eq mode (codes "1") then lone_flick flick.One ws else if bytes_eq mode (codes "pcg") then seeded ws else Err Unknown)
    ≡ (if b then are_operands version [] ws else if bytes_eq mode (codes "1") then are_operands version [] ws else if bytes_eq mode (codes "pcg") then are_operands version (a_seed ∷ []) ws else false)) [
      | true ↦ lone_flick_ok version flick.Zero ws
      | false ↦ elim (bytes_eq mode (codes "1")) as (λ b. is_ok (if b then lone_flick flick.One ws else if bytes_eq mode (codes "pcg") then seeded ws else Err Unknown) ≡ (if b then are_operands version [] ws else if bytes_eq mode (codes "pcg") then are_operands version (a_seed ∷ []) ws else false)) [
        | true ↦ lone_flick_ok version flick.One ws
        | false ↦ elim (bytes_eq mode (codes "pcg")) as (λ b. is_ok (if b then seeded ws else Err Unknown) ≡ (if b then are_operands version (a_seed ∷ []) ws else false)) [ true ↦ seeded_ok version ws | false ↦ refl ]
      ]
    ]

-- `wander n`
pub wander_ok : (version : ℕ) (ws : List (List ℕ)) → is_ok (wander_of ws) ≡ fits_form version (a_count ∷ []) [] ws
unfolding wander_of
wander_ok version ws =
    ok_operands version (a_count ∷ []) ws (λ counts. number_at 100000 (word 0 ws) >>= λ turns. Ok (line.Wander turns))
    (λ count. ok_then (number_at 100000 (word 0 ws)) (λ turns. Ok (line.Wander turns)) true (λ turns. refl) ∙ ap (are_operands version (a_count ∷ [])) (sym (one_of ws count)))
    ∙ fits_alone version (a_count ∷ []) ws

-- `show`
pub show_ok : (version : ℕ) (ws : List (List ℕ)) → is_ok (show_of ws) ≡ fits_form version [] [] ws
unfolding show_of
show_ok version ws =
    ok_operands version [] ws (λ counts. Ok line.Show) (λ count. ap (are_operands version []) (sym (none_of ws count)))
    ∙ fits_alone version [] ws
