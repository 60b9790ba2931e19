-- Moves and marks are read exactly if they have a form.
use Rattle.std.proofs.Common.{◌≡◌, ℕ, ◌==◌, not, nat_lt, ◌&&◌, Bool, true, false, if◌then◌else◌, List, [], ◌∷◌, length, codes, Option, Some, None, Result, Ok, Err, refl, ap, sym, subst, ◌∙◌, arith}
use Rattle.std.proofs.lemmas.Bool.{and_right}
use Rattle.std.proofs.lemmas.Bool.Decides.{nat_tests}
use Rattle.std.specs.Map.{lookup}
use Rattle.std.specs.Option.{is_none}
use Rattle.std.specs.Result.{is_ok}
use Rattle.std.specs.Str.{bytes_eq}
use Rattle.files.specs.{FaultKind, counted, fault_if, known, word, ◌>>=◌}
use Rattle.files.specs.declared.faults.FaultKind.TheVariants.{Unknown, Words}
use Rattle.scenario.specs.{fault_of}
use Rattle.scenario.proofs.Fitting.{by_rows, is_read, ok_counted, ok_last, ok_then}
use Rattle.scenario.proofs.LineSpelled.{none_of, one_of, three_of}
use Rattle.trace.specs.{CellMove, LockMark}
use Rattle.trace.specs.declared.accesses.CellMove.TheVariants as move
use Rattle.trace.specs.declared.marks.LockMark.TheVariants as mark
use Rattle.trace_file.specs.{MoveWord, cas_values, key_at, mark_words, move_words, named_move_of, two_values, value_of}
use Rattle.trace_file.specs.Forms.{are_operands, fault_at, is_phrase, key_fault, marks, moves}
use Rattle.trace_file.specs.Reading.{no_value, one_value}
use Rattle.trace_file.specs.declared.forms.TraceOperand.{TraceOperand}
use Rattle.trace_file.specs.declared.forms.TraceOperand.TheVariants as operand

-- another number of words than of operands
pub other_count : (os : List TraceOperand) (ws : List (List ℕ)) → (length ws == length os) ≡ false → are_operands os ws ≡ false
other_count [] [] differ = absurd (cc)
other_count [] (w ∷ ws) differ = refl
other_count (o ∷ os) [] differ = refl
other_count (o ∷ os) (w ∷ ws) differ = and_right (is_none (fault_at o w)) (are_operands os ws) (let fewer : (length ws == length os) ≡ false = grind (arith, nat_tests) in other_count os ws fewer)

-- operands alone
ok_operands : {B : Type 0} (os : List TraceOperand) (ws : List (List ℕ)) (f : Unit {0} → Result B FaultKind) → (length ws ≡ length os → is_ok (f tt) ≡ are_operands os ws) → is_ok (counted (length os) ws >>= f) ≡ are_operands os ws
ok_operands os ws f same = ok_counted (length os) ws f (are_operands os ws) same (other_count os ws)

lone_ok : {B : Type 0} (made : B) (ws : List (List ℕ)) → is_ok (counted 0 ws >>= λ counts. Ok made) ≡ are_operands [] ws
lone_ok made ws = ok_operands [] ws (λ counts. Ok made) (λ count. ap (are_operands []) (sym (none_of ws count)))

value_ok : (f : ℕ → CellMove) (ws : List (List ℕ)) → is_ok (one_value ws >>= λ v. Ok (f v)) ≡ are_operands (operand.Value ∷ []) ws
value_ok f ws =
    ok_last (one_value ws) (λ v. Ok (f v)) (λ v. refl)
    ∙ ok_operands (operand.Value ∷ []) ws (λ counts. value_of (word 0 ws)) (λ count. is_read (value_of (word 0 ws)) ∙ ap (are_operands (operand.Value ∷ [])) (sym (one_of ws count)))

-- operands among which there is the word `gives`
gives_ok : {B : Type 0} (i : ℕ) (os : List TraceOperand) (ws : List (List ℕ)) (f : Result B FaultKind) → (length ws ≡ length os → is_ok (key_at i (codes "gives") ws >>= λ gives. f) ≡ are_operands os ws)
    → is_ok (key_at i (codes "gives") ws >>= λ gives. counted (length os) ws >>= λ counts. f) ≡ are_operands os ws
gives_ok i os ws f same = by (length ws == length os) refl
  where
    none : (b : Bool) → is_ok (fault_if b Unknown >>= λ gives. fault_if true Words >>= λ counts. f) ≡ false
    none true = refl
    none false = refl

    by : (b : Bool) → (length ws == length os) ≡ b → is_ok (key_at i (codes "gives") ws >>= λ gives. fault_if (not b) Words >>= λ counts. f) ≡ are_operands os ws
    by true is = let count : length ws ≡ length os = grind (arith, nat_tests) in same count
    by false is = none (nat_lt i (length ws) && not (bytes_eq (word i ws) (codes "gives"))) ∙ sym (other_count os ws is)

abbrev two_operands : List TraceOperand
two_operands = operand.Value ∷ operand.Gives ∷ operand.Value ∷ []

abbrev IsTwo : List (List ℕ) → Type 0
IsTwo ws = is_ok {T = ℕ × ℕ} (key_at 1 (codes "gives") ws >>= λ gives. value_of (word 0 ws) >>= λ new. value_of (word 2 ws) >>= λ old. Ok (new, old)) ≡ are_operands two_operands ws

three_words : (a b c : List ℕ) → IsTwo (a ∷ b ∷ c ∷ [])
three_words a b c =
    elim (bytes_eq b (codes "gives")) as (λ t. is_ok {T = ℕ × ℕ} (fault_if (not t) Unknown >>= λ gives. value_of a >>= λ new. value_of c >>= λ old. Ok (new, old)) ≡ (is_none (fault_of (value_of a)) && (is_none (key_fault t) && (is_none (fault_of (value_of c)) && true)))) [
      | true ↦ ok_then {B = ℕ × ℕ} (value_of a) (λ new. value_of c >>= λ old. Ok (new, old)) (is_none (fault_of (value_of c)) && true) (λ new. ok_then {B = ℕ × ℕ} (value_of c) (λ old. Ok (new, old)) true (λ old. refl))
      | false ↦ sym (and_right (is_none (fault_of (value_of a))) false refl)
    ]

two_ok : (f : ℕ × ℕ → CellMove) (ws : List (List ℕ)) → is_ok (two_values ws >>= λ v. Ok (f v)) ≡ are_operands two_operands ws
unfolding two_values
two_ok f ws =
    ok_last (two_values ws) (λ v. Ok (f v)) (λ v. refl)
    ∙ gives_ok {B = ℕ × ℕ} 1 two_operands ws (value_of (word 0 ws) >>= λ new. value_of (word 2 ws) >>= λ old. Ok (new, old)) (λ count. subst IsTwo (sym (three_of ws count)) (three_words (word 0 ws) (word 1 ws) (word 2 ws)))

abbrev cas_operands : List TraceOperand
cas_operands = operand.Value ∷ operand.Value ∷ operand.Gives ∷ operand.Value ∷ []

abbrev IsCas : List (List ℕ) → Type 0
IsCas ws = is_ok {T = ℕ × ℕ × ℕ} (key_at 2 (codes "gives") ws >>= λ gives. value_of (word 0 ws) >>= λ expected. value_of (word 1 ws) >>= λ new. value_of (word 3 ws) >>= λ old. Ok (expected, new, old)) ≡ are_operands cas_operands ws

four_of : (ws : List (List ℕ)) → length ws ≡ 4 → ws ≡ word 0 ws ∷ word 1 ws ∷ word 2 ws ∷ word 3 ws ∷ []
four_of [] count = absurd (omega (arith, count))
four_of (a ∷ ws) count = let fewer : length ws ≡ 3 = omega (arith, count) in ap (λ l. a ∷ l) (three_of ws fewer)

four_words : (a b c d : List ℕ) → IsCas (a ∷ b ∷ c ∷ d ∷ [])
four_words a b c d =
    elim (bytes_eq c (codes "gives")) as (λ t. is_ok {T = ℕ × ℕ × ℕ} (fault_if (not t) Unknown >>= λ gives. value_of a >>= λ expected. value_of b >>= λ new. value_of d >>= λ old. Ok (expected, new, old)) ≡ (is_none (fault_of (value_of a)) && (is_none (fault_of (value_of b)) && (is_none (key_fault t) && (is_none (fault_of (value_of d)) && true))))) [
      | true ↦ ok_then {B = ℕ × ℕ × ℕ} (value_of a) (λ expected. value_of b >>= λ new. value_of d >>= λ old. Ok (expected, new, old)) (is_none (fault_of (value_of b)) && (is_none (fault_of (value_of d)) && true))
          (λ expected. ok_then {B = ℕ × ℕ × ℕ} (value_of b) (λ new. value_of d >>= λ old. Ok (expected, new, old)) (is_none (fault_of (value_of d)) && true) (λ new. ok_then {B = ℕ × ℕ × ℕ} (value_of d) (λ old. Ok (expected, new, old)) true (λ old. refl)))
      | false ↦ sym (ap (λ b. is_none (fault_of (value_of a)) && b) (and_right (is_none (fault_of (value_of b))) false refl) ∙ and_right (is_none (fault_of (value_of a))) false refl)
    ]

cas_ok : (f : ℕ × ℕ × ℕ → CellMove) (ws : List (List ℕ)) → is_ok (cas_values ws >>= λ v. Ok (f v)) ≡ are_operands cas_operands ws
unfolding cas_values
cas_ok f ws =
    ok_last (cas_values ws) (λ v. Ok (f v)) (λ v. refl)
    ∙ gives_ok {B = ℕ × ℕ × ℕ} 2 cas_operands ws (value_of (word 0 ws) >>= λ expected. value_of (word 1 ws) >>= λ new. value_of (word 3 ws) >>= λ old. Ok (expected, new, old)) (λ count. subst IsCas (sym (four_of ws count)) (four_words (word 0 ws) (word 1 ws) (word 2 ws) (word 3 ws)))

-- moves
pub move_has_form : (name : List ℕ) (ws : List (List ℕ)) → is_ok (known (lookup (bytes_eq name) move_words) >>= λ m. named_move_of m ws) ≡ is_phrase moves name ws
move_has_form name ws =
    by_rows 2 (λ os ws. are_operands os ws) (λ o. is_ok (known o >>= λ m. named_move_of m ws)) name ws refl move_words moves
    (refl, value_ok move.Write ws, (refl, lone_ok move.End ws, (refl, lone_ok move.Read ws, (refl, value_ok move.Value ws, (refl, value_ok move.Set ws, (refl, value_ok move.Get ws, (refl, two_ok (λ v. move.Swap v.0 v.1) ws, (refl, two_ok (λ v. move.Add v.0 v.1) ws, (refl, cas_ok (λ v. move.Cas v.0 v.1 v.2) ws, tt)))))))))

-- marks
pub mark_has_form : (name : List ℕ) (ws : List (List ℕ)) → is_ok (known (lookup (bytes_eq name) mark_words) >>= λ m. counted 0 ws >>= λ counts. Ok m) ≡ is_phrase marks name ws
mark_has_form name ws =
    by_rows 2 (λ os ws. are_operands os ws) (λ o. is_ok (known o >>= λ m. counted 0 ws >>= λ counts. Ok m)) name ws refl mark_words marks
    (refl, lone_ok mark.Call ws, (refl, lone_ok mark.Wait ws, (refl, lone_ok mark.Enter ws, (refl, lone_ok mark.Leave ws, (refl, lone_ok mark.Answer ws, tt)))))
