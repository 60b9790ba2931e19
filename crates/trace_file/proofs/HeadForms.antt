-- Lines that are not entries have a form exactly if they are formed.
use Rattle.std.proofs.Common.{◌≡◌, ℕ, ◌==◌, ◌||◌, not, nat_lt, ◌&&◌, Bool, true, false, if◌then◌else◌, List, [], ◌∷◌, length, codes, Option, Some, None, Result, Ok, Err, refl, ap, sym, ◌∙◌, arith}
use Rattle.std.proofs.lemmas.Bool.{and_right}
use Rattle.std.proofs.lemmas.Bool.Decides.{nat_tests}
use Rattle.std.specs.Int.{is_in_range}
use Rattle.std.specs.Map.{lookup}
use Rattle.std.specs.Option.{is_none, ok_or}
use Rattle.std.specs.Str.{bytes_eq}
use Rattle.files.specs.{FaultKind, counted, fault_if, known, word, ◌>>=◌}
use Rattle.files.specs.declared.faults.FaultKind.TheVariants.{BadName, BadSetup, NotFirst, Number, Unknown, Words}
use Rattle.scenario.specs.{fault_of, number_at}
use Rattle.scenario.specs.Numbers.{number_up_to}
use Rattle.scenario.proofs.Fitting.{by_rows}
use Rattle.scenario.proofs.LineSpelled.{none_of, one_of}
use Rattle.trace.specs.{TraceMemory, TraceRegister, begins_with_digit, is_cell_name}
use Rattle.trace.specs.declared.setups.TraceMemory.TheVariants as memory
use Rattle.trace_file.specs.{TraceLineKind, key_at, kind_of, line_kinds, line_said, memories, memory_read, processes_read, register_read, trace_begun, value_of}
use Rattle.trace_file.specs.Forms.{are_operands, fault_at, fits_form, has_form, heads, is_formed, is_phrase, memory_phrases, openings}
use Rattle.trace_file.specs.TraceFiles.{TraceProgress, cell_name_of, declared_read, is_declared, may_declare, opening_of}
use Rattle.trace_file.specs.declared.forms.TraceOperand.{TraceOperand}
use Rattle.trace_file.specs.declared.forms.TraceOperand.TheVariants as operand
use Rattle.trace_file.specs.declared.keywords.TraceLineKind.TheVariants as line
use Rattle.trace_file.proofs.MoveForms.{other_count}

-- a number, and the reading of the words after it
formed_number : {B : Type 0} (most : ℕ) (w : List ℕ) (f : ℕ → Result B FaultKind) (b : Bool) → ((n : ℕ) → is_formed (f n) ≡ b) → is_formed (number_at most w >>= f) ≡ (is_none (fault_of (number_at most w)) && b)
formed_number {B} most w f b same = by (number_up_to most w)
  where
    by : (o : Option ℕ) → is_formed (ok_or o Number >>= f) ≡ (is_none (fault_of (ok_or o Number)) && b)
    by (Some n) = same n
    by None = refl

-- a name, and the reading of the words after it
formed_name : {B : Type 0} (w : List ℕ) (f : List ℕ → Result B FaultKind) (b : Bool) → ((n : List ℕ) → is_formed (f n) ≡ b) → is_formed (cell_name_of w >>= f) ≡ (is_none (fault_of (cell_name_of w)) && b)
formed_name {B} w f b same = by (is_cell_name w)
  where
    by : (is : Bool) → is_formed ((if is then Ok w else Err BadName) >>= f) ≡ (is_none (fault_of (if is then Ok w else Err BadName)) && b)
    by true = same w
    by false = refl

-- words are counted first
formed_counted : {B : Type 0} (os : List TraceOperand) (ws : List (List ℕ)) (f : Result B FaultKind) → (length ws ≡ length os → is_formed f ≡ are_operands os ws) → is_formed (counted (length os) ws >>= λ counts. f) ≡ are_operands os ws
formed_counted {B} os ws f same = by (length ws == length os) refl
  where
    by : (b : Bool) → (length ws == length os) ≡ b → is_formed (fault_if (not b) Words >>= λ counts. f) ≡ are_operands os ws
    by true is = let count : length ws ≡ length os = grind (arith, nat_tests) in same count
    by false is = sym (other_count os ws is)

fits_alone : (os : List TraceOperand) (ws : List (List ℕ)) → are_operands os ws ≡ fits_form os [] true ws
fits_alone [] [] = refl
fits_alone [] (w ∷ ws) = refl
fits_alone (o ∷ os) [] = refl
fits_alone (o ∷ os) (w ∷ ws) = ap (λ b. is_none (fault_at o w) && b) (fits_alone os ws)

-- the number of processes
processes_formed : (ws : List (List ℕ)) → is_formed (processes_read ws trace_begun) ≡ fits_form (operand.Count ∷ []) [] true ws
unfolding processes_read
processes_formed ws =
    formed_counted (operand.Count ∷ []) ws (number_at 255 (word 0 ws) >>= λ n. fault_if (not (is_in_range 1 16 n)) BadSetup >>= λ fits. Ok (record trace_begun { setup = record trace_begun.setup { processes = n }; has_processes = true }))
    (λ count. formed_number 255 (word 0 ws) (λ n. fault_if (not (is_in_range 1 16 n)) BadSetup >>= λ fits. Ok (record trace_begun { setup = record trace_begun.setup { processes = n }; has_processes = true })) true (λ n. fits n (is_in_range 1 16 n)) ∙ ap (are_operands (operand.Count ∷ [])) (sym (one_of ws count)))
    ∙ fits_alone (operand.Count ∷ []) ws
  where
    fits : (n : ℕ) (b : Bool) → is_formed (fault_if (not b) BadSetup >>= λ fits. Ok (record trace_begun { setup = record trace_begun.setup { processes = n }; has_processes = true })) ≡ true
    fits n true = refl
    fits n false = refl

-- the memory
abbrev remembered : List (List ℕ) → Option TraceMemory → Bool
remembered ws o = is_formed (known o >>= λ m. counted 0 ws >>= λ counts. Ok (record trace_begun { setup = record trace_begun.setup { memory = m }; has_memory = true }))

one_memory : (m : TraceMemory) (ws : List (List ℕ)) → remembered ws (Some m) ≡ are_operands [] ws
one_memory m ws = formed_counted [] ws (Ok (record trace_begun { setup = record trace_begun.setup { memory = m }; has_memory = true })) (λ count. ap (are_operands []) (sym (none_of ws count)))

memory_formed : (ws : List (List ℕ)) → is_formed (memory_read ws trace_begun) ≡ fits_form [] memory_phrases false ws
unfolding memory_read
memory_formed [] = refl
memory_formed (w ∷ ws) =
    by_rows 2 (λ os ws. are_operands os ws) (remembered ws) w ws refl memories memory_phrases
    (refl, one_memory memory.Safe ws, (refl, one_memory memory.Regular ws, (refl, one_memory memory.Atomic ws, tt)))

-- a register
made_formed : (r : TraceRegister) → is_formed (declared_read r trace_begun) ≡ true
made_formed r = elim (may_declare trace_begun.setup r) as (λ b. is_formed (if b then Ok (record trace_begun { setup = record trace_begun.setup { registers = r ∷ [] } }) else Err BadSetup) ≡ true) [ true ↦ refl | false ↦ refl ]

abbrev declared : Bool → ℕ → ℕ → List ℕ → Result TraceProgress FaultKind
declared is_shared width value name = declared_read (record { name = name; width = width; opens = value; is_shared = is_shared }) trace_begun

-- its name is looked at last
abbrev width_of : List ℕ → Bool
width_of w = is_none (fault_of (number_at 255 w))

abbrev name_of : List ℕ → Bool
name_of w = is_none (fault_of (cell_name_of w))

abbrev opens_of : List ℕ → Bool
opens_of w = is_none (fault_of (value_of w))

two_words : (is_shared : Bool) (a b : List ℕ) → is_formed (number_at 255 b >>= λ width. cell_name_of a >>= λ name. declared is_shared width 0 name) ≡ (name_of a && (width_of b && true))
two_words is_shared a b =
    formed_number 255 b (λ width. cell_name_of a >>= λ name. declared is_shared width 0 name) (name_of a && true)
    (λ width. formed_name a (λ name. declared is_shared width 0 name) true (λ name. made_formed (record { name = name; width = width; opens = 0; is_shared = is_shared })))
    ∙ swap (width_of b) (name_of a)
  where
    swap : (x y : Bool) → (x && (y && true)) ≡ (y && (x && true))
    swap true true = refl
    swap true false = refl
    swap false true = refl
    swap false false = refl

four_words : (is_shared : Bool) (a b v : List ℕ) → is_formed (number_at 255 b >>= λ width. value_of v >>= λ value. cell_name_of a >>= λ name. declared is_shared width value name) ≡ (name_of a && (width_of b && (opens_of v && true)))
four_words is_shared a b v =
    formed_number 255 b (λ width. value_of v >>= λ value. cell_name_of a >>= λ name. declared is_shared width value name) (opens_of v && (name_of a && true))
    (λ width. formed_number 4294967295 v (λ value. cell_name_of a >>= λ name. declared is_shared width value name) (name_of a && true)
    (λ value. formed_name a (λ name. declared is_shared width value name) true (λ name. made_formed (record { name = name; width = width; opens = value; is_shared = is_shared }))))
    ∙ turn (width_of b) (opens_of v) (name_of a)
  where
    turn : (x y z : Bool) → (x && (y && (z && true))) ≡ (z && (x && (y && true)))
    turn true true true = refl
    turn true true false = refl
    turn true false true = refl
    turn true false false = refl
    turn false y true = refl
    turn false y false = refl

-- another number of words
abbrev behind_words : Bool → List (List ℕ) → Result TraceProgress FaultKind
behind_words is_shared ws = number_at 255 (word 1 ws) >>= λ width. opening_of ws >>= λ value. cell_name_of (word 0 ws) >>= λ name. declared is_shared width value name

other_words : (is_shared : Bool) (ws : List (List ℕ)) → ((length ws == 2) || (length ws == 4)) ≡ false → is_formed (register_read is_shared ws trace_begun) ≡ false
unfolding register_read
other_words is_shared ws other =
    ap (λ b. is_formed (key_at 2 (codes "opens") ws >>= λ opens. fault_if (not b) Words >>= λ counts. behind_words is_shared ws)) other
    ∙ none (nat_lt 2 (length ws) && not (bytes_eq (word 2 ws) (codes "opens")))
  where
    none : (b : Bool) → is_formed (fault_if b Unknown >>= λ opens. fault_if true Words >>= λ counts. behind_words is_shared ws) ≡ false
    none true = refl
    none false = refl

-- the words after a width
abbrev ends : Bool → List ℕ → List (List ℕ) → Bool
ends is_key v words = if is_key then opens_of v && are_operands [] words else false

no_end : (is_key : Bool) (v w : List ℕ) (ws : List (List ℕ)) → ends is_key v (w ∷ ws) ≡ false
no_end true v w ws = and_right (opens_of v) false refl
no_end false v w ws = refl

nothing : (x y : Bool) → (x && (y && false)) ≡ false
nothing true true = refl
nothing true false = refl
nothing false y = refl

register_formed : (is_shared : Bool) (ws : List (List ℕ)) → is_formed (register_read is_shared ws trace_begun) ≡ fits_form (operand.Name ∷ operand.Width ∷ []) openings true ws
unfolding register_read
register_formed is_shared [] = refl
register_formed is_shared (a ∷ []) = sym (and_right (name_of a) false refl)
register_formed is_shared (a ∷ b ∷ []) = two_words is_shared a b
register_formed is_shared (a ∷ b ∷ k ∷ []) =
    other_words is_shared (a ∷ b ∷ k ∷ []) refl
    ∙ sym (elim (bytes_eq k (codes "opens")) as (λ t. (name_of a && (width_of b && (if t then false else false))) ≡ false) [ true ↦ nothing (name_of a) (width_of b) | false ↦ nothing (name_of a) (width_of b) ])
register_formed is_shared (a ∷ b ∷ k ∷ v ∷ []) =
    elim (bytes_eq k (codes "opens")) as (λ t. is_formed (fault_if (not t) Unknown >>= λ opens. number_at 255 b >>= λ width. value_of v >>= λ value. cell_name_of a >>= λ name. declared is_shared width value name) ≡ (name_of a && (width_of b && ends t v [])))
    [ true ↦ four_words is_shared a b v | false ↦ sym (nothing (name_of a) (width_of b)) ]
register_formed is_shared (a ∷ b ∷ k ∷ v ∷ w ∷ ws) =
    let many : ((length (a ∷ b ∷ k ∷ v ∷ w ∷ ws) == 2) || (length (a ∷ b ∷ k ∷ v ∷ w ∷ ws) == 4)) ≡ false = grind (arith, nat_tests) in
    other_words is_shared (a ∷ b ∷ k ∷ v ∷ w ∷ ws) many
    ∙ sym (ap (λ t. name_of a && (width_of b && t)) (no_end (bytes_eq k (codes "opens")) v w ws) ∙ nothing (name_of a) (width_of b))

-- any line that does not begin with a digit
abbrev is_read : List ℕ → List (List ℕ) → Option TraceLineKind → Bool
is_read first ws o = is_formed (known o >>= λ kind. line_said kind first ws trace_begun)

pub head_has_form : (first : List ℕ) (ws : List (List ℕ)) → begins_with_digit first ≡ false → is_formed (known (kind_of first) >>= λ kind. line_said kind first ws trace_begun) ≡ has_form heads first ws
head_has_form first ws digit =
    ap (λ b. is_read first ws (if b then Some line.Entry else lookup (bytes_eq first) line_kinds)) digit
    ∙ by_rows 2 (λ form words. fits_form form.operands form.phrases form.may_end words) (is_read first ws) first ws refl line_kinds heads
    (refl, processes_formed ws, (refl, memory_formed ws, (refl, register_formed false ws, (refl, register_formed true ws, (refl, tt)))))
