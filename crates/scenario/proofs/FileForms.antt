-- The lines of scenarios and bits files are read exactly if they have a form.
use Rattle.std.proofs.Common.{◌≡◌, ℕ, ◌==◌, not, nat_lt, ◌&&◌, Bool, true, false, cond, if◌then◌else◌, List, [], ◌∷◌, ◌++◌, length, codes, Option, Some, None, Result, Ok, Err, refl, ap, sym, subst, ◌∙◌}
use Rattle.std.specs.Int.{is_in_range}
use Rattle.std.specs.Map.{lookup}
use Rattle.std.specs.Option.{is_none}
use Rattle.std.specs.Result.{is_ok}
use Rattle.std.specs.Str.{bytes_eq}
use Rattle.files.specs.{FaultKind, counted, fault_if, known, one_more, word, ◌>>=◌}
use Rattle.files.specs.declared.faults.FaultKind.TheVariants.{BadSetup, NotFirst, Unknown}
use Rattle.scenario.specs.{BitLine, BitWord, Heading, Line, LineWord, Opener, Progress, are_operands, begun, bit_at, bit_line_of, bit_lines, bit_words, fault_of, fits_form, has_form, heading_fault, heading_read, heading_set, heads, is_operand, is_phrase, kept_read, line_of, lone_word_of, most_of, name_at, number_at, one_bit_of, open_read, opened_read, openers, other_read, pair_read, statements, value_at}
use Rattle.scenario.specs.declared.bit_files.BitLine.TheVariants as bit
use Rattle.scenario.specs.declared.bit_files.BitWord.TheVariants as bits
use Rattle.scenario.specs.declared.forms.Operand.TheVariants as operand
use Rattle.scenario.specs.declared.keywords.Heading.TheVariants.{Processes, Tickets, Stamps, Slots}
use Rattle.scenario.specs.declared.keywords.LineWord.TheVariants as name
use Rattle.scenario.specs.declared.keywords.Opener.TheVariants as opener
use Rattle.scenario.specs.declared.lines.Line.TheVariants as line
use Rattle.scenario.proofs.Fitting.{and_true, by_rows, fits_alone, if_word, is_read, ok_last, ok_operands, ok_then}
use Rattle.scenario.proofs.LineForms.{call_ok, flick_ok, go_ok, process_ok, show_ok, step_ok, wander_ok}
use Rattle.scenario.proofs.LineSpelled.{none_of, one_of, two_of}

-- a heading's number
heading_number : (version : ℕ) (h : Heading) (w : List ℕ) (f : ℕ → Progress) → is_ok (number_at 255 w >>= λ n. fault_if (not (is_in_range 1 (most_of h version) n)) BadSetup >>= λ fits. Ok (f n)) ≡ (is_operand version (operand.Heading h) w && true)
heading_number version h w f = by (number_at 255 w) ∙ sym (and_true (is_operand version (operand.Heading h) w))
  where
    by : (r : Result ℕ FaultKind) → is_ok (r >>= λ n. fault_if (not (is_in_range 1 (most_of h version) n)) BadSetup >>= λ fits. Ok (f n)) ≡ is_none (heading_fault (most_of h version) r)
    by (Err fault) = refl
    by (Ok n) = elim (is_in_range 1 (most_of h version) n) as (λ b. is_ok (fault_if (not b) BadSetup >>= λ fits. Ok (f n)) ≡ is_none (if b then None else Some BadSetup)) [ true ↦ refl | false ↦ refl ]

-- a heading after the first line
counted_number : (version : ℕ) (h : Heading) (ws : List (List ℕ)) → is_ok (counted 1 ws >>= λ counts. number_at 255 (word 0 ws) >>= λ n. fault_if (not (is_in_range 1 (most_of h version) n)) BadSetup >>= λ fits. Ok (heading_set h n (begun version))) ≡ fits_form version (operand.Heading h ∷ []) [] ws
counted_number version h ws =
    ok_operands version (operand.Heading h ∷ []) ws (λ counts. number_at 255 (word 0 ws) >>= λ n. fault_if (not (is_in_range 1 (most_of h version) n)) BadSetup >>= λ fits. Ok (heading_set h n (begun version)))
    (λ count. heading_number version h (word 0 ws) (λ n. heading_set h n (begun version)) ∙ ap (are_operands version (operand.Heading h ∷ [])) (sym (one_of ws count)))
    ∙ fits_alone version (operand.Heading h ∷ []) ws

pub heading_ok : (version : ℕ) (h : Heading) (ws : List (List ℕ)) → is_ok (heading_read h ws (begun version)) ≡ fits_form version (operand.Heading h ∷ []) [] ws
unfolding heading_read
heading_ok version Processes ws = counted_number version Processes ws
heading_ok version Tickets ws = counted_number version Tickets ws
heading_ok version Stamps ws = counted_number version Stamps ws
heading_ok version Slots ws = counted_number version Slots ws

-- an opening pair after the first line, in version 2
pub open_ok : (version : ℕ) (ws : List (List ℕ)) → is_ok (open_read ws (begun version)) ≡ ((version == 2) && fits_form version (operand.Name ∷ operand.Value ∷ []) [] ws)
unfolding open_read
open_ok version ws =
    elim (version == 2) as (λ b. is_ok (fault_if (not b) Unknown >>= λ in_table. counted 2 ws >>= λ counts. name_at (word 0 ws) >>= λ name. value_at (word 1 ws) >>= λ value. pair_read name value (begun version)) ≡ (b && fits_form version (operand.Name ∷ operand.Value ∷ []) [] ws)) [
      | true ↦ ok_operands version (operand.Name ∷ operand.Value ∷ []) ws (λ counts. name_at (word 0 ws) >>= λ name. value_at (word 1 ws) >>= λ value. pair_read name value (begun version))
          (λ count. ok_then (name_at (word 0 ws)) (λ name. value_at (word 1 ws) >>= λ value. pair_read name value (begun version)) (is_none (fault_of (value_at (word 1 ws))) && true) (λ name. ok_then (value_at (word 1 ws)) (λ value. pair_read name value (begun version)) true (λ value. refl))
          ∙ ap (are_operands version (operand.Name ∷ operand.Value ∷ [])) (sym (two_of ws count)))
          ∙ fits_alone version (operand.Name ∷ operand.Value ∷ []) ws
      | false ↦ refl
    ]

-- a line of any other kind
other_ok : (version : ℕ) (n : LineWord) (ws : List (List ℕ)) {b : Bool} → is_ok (line_of version n ws) ≡ b → is_ok (other_read n ws (begun version)) ≡ b
unfolding other_read
other_ok version n ws same = ok_last (line_of version n ws) (λ line. kept_read line (begun version)) (λ line. refl) ∙ same

-- a table without its first row
abbrev pub behind : {A : Type 0} → List A → List A
behind [] = []
behind (row ∷ rows) = rows

-- any line after the first
abbrev line_reads : ℕ → List (List ℕ) → Option Opener → Bool
line_reads version ws o = is_ok (known o >>= λ opener. opened_read opener ws (begun version))

lines_behind : (version : ℕ) (first : List ℕ) (ws : List (List ℕ)) → line_reads version ws (lookup (bytes_eq first) (behind openers)) ≡ has_form version (heads ++ statements) first ws
lines_behind version first ws =
    by_rows version (λ form words. fits_form version form.0 form.1 words) (line_reads version ws) first ws refl (behind openers) (heads ++ statements) (
      refl,
      heading_ok version Processes ws,
      (
        refl,
        heading_ok version Tickets ws,
        (
          refl,
          heading_ok version Stamps ws,
          (
            refl,
            heading_ok version Slots ws,
            (
              refl,
              open_ok version ws,
              (
                refl,
                other_ok version name.Call ws (call_ok version ws),
                (
                  refl,
                  other_ok version name.Step ws (step_ok version ws),
                  (
                    refl,
                    other_ok version name.Go ws (go_ok version ws),
                    (
                      refl,
                      other_ok version name.Fail ws (process_ok version ws line.Fail),
                      (
                        refl,
                        other_ok version name.Withdraw ws (process_ok version ws line.Withdraw),
                        (
                          refl,
                          other_ok version name.Restart ws (process_ok version ws line.Restart),
                          (refl, other_ok version name.Flick ws (flick_ok version ws), (refl, other_ok version name.Wander ws (wander_ok version ws), (refl, other_ok version name.Show ws (show_ok version ws), tt))),
                        ),
                      ),
                    ),
                  ),
                ),
              ),
            ),
          ),
        ),
      ),
    )

pub line_has_form : (version : ℕ) (first : List ℕ) (ws : List (List ℕ)) → is_ok (known (lookup (bytes_eq first) openers) >>= λ opener. opened_read opener ws (begun version)) ≡ has_form version (heads ++ statements) first ws
line_has_form version first ws =
    if_word first (codes "bakery") (λ f. line_reads version ws (lookup (bytes_eq f) openers) ≡ has_form version (heads ++ statements) f ws) refl
    (λ is. ap (λ b. line_reads version ws (cond b (Some opener.Bakery) (lookup (bytes_eq first) (behind openers)))) is ∙ lines_behind version first ws)

-- a line of a bits file that has one bit, or none
bit_ok : (f : Bool → BitLine) (ws : List (List ℕ)) → is_ok ((one_bit_of ws >>= λ v. Ok (f v)) >>= λ line. one_more [] line) ≡ are_operands 1 (operand.Bit ∷ []) ws
bit_ok f ws =
    ok_last (one_bit_of ws >>= λ v. Ok (f v)) (λ line. one_more [] line) (λ line. refl)
    ∙ ok_last (one_bit_of ws) (λ v. Ok (f v)) (λ v. refl)
    ∙ ok_operands 1 (operand.Bit ∷ []) ws (λ counts. bit_at (word 0 ws)) (λ count. is_read (bit_at (word 0 ws)) ∙ ap (are_operands 1 (operand.Bit ∷ [])) (sym (one_of ws count)))

lone_ok : (made : BitLine) (ws : List (List ℕ)) → is_ok (lone_word_of made ws >>= λ line. one_more [] line) ≡ are_operands 1 [] ws
lone_ok made ws =
    ok_last (lone_word_of made ws) (λ line. one_more [] line) (λ line. refl)
    ∙ ok_operands 1 [] ws (λ counts. Ok made) (λ count. ap (are_operands 1 []) (sym (none_of ws count)))

-- any line of a bits file after the first
abbrev bit_line_reads : List (List ℕ) → Option BitWord → Bool
bit_line_reads ws o = is_ok (known o >>= λ name. bit_line_of name ws >>= λ line. one_more [] line)

bit_lines_behind : (first : List ℕ) (ws : List (List ℕ)) → bit_line_reads ws (lookup (bytes_eq first) (behind bit_words)) ≡ is_phrase 1 bit_lines first ws
bit_lines_behind first ws =
    by_rows 1 (λ os words. are_operands 1 os words) (bit_line_reads ws) first ws refl (behind bit_words) bit_lines
    (refl, bit_ok bit.Write ws, (refl, lone_ok bit.End ws, (refl, bit_ok bit.Settle ws, (refl, lone_ok bit.Read ws, (refl, bit_ok bit.Value ws, (refl, lone_ok bit.Drop ws, tt))))))

pub bit_line_has_form : (first : List ℕ) (ws : List (List ℕ)) → is_ok (known (lookup (bytes_eq first) bit_words) >>= λ name. bit_line_of name ws >>= λ line. one_more [] line) ≡ is_phrase 1 bit_lines first ws
bit_line_has_form first ws =
    if_word first (codes "bits") (λ f. bit_line_reads ws (lookup (bytes_eq f) bit_words) ≡ is_phrase 1 bit_lines f ws) refl
    (λ is. ap (λ b. bit_line_reads ws (cond b (Some bits.Bits) (lookup (bytes_eq first) (behind bit_words)))) is ∙ bit_lines_behind first ws)
