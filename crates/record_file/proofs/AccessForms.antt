-- Accesses are read exactly if they have a form, and so are the lines other than entries.
use Rattle.std.proofs.Common.{◌≡◌, ℕ, ◌==◌, not, ◌&&◌, Bool, true, false, cond, if◌then◌else◌, List, [], ◌∷◌, length, codes, is_some, Option, Some, None, Result, Ok, Err, refl, ap, sym, ◌∙◌}
use Rattle.std.proofs.lemmas.Bool.{and_right}
use Rattle.std.specs.Map.{lookup}
use Rattle.std.specs.Option.{is_none}
use Rattle.std.specs.Result.{is_ok}
use Rattle.std.specs.Str.{bytes_eq}
use Rattle.safe_bit.specs.{Move}
use Rattle.safe_bit.specs.declared.Move.TheVariants as move
use Rattle.model.specs.{Access, Field}
use Rattle.files.specs.{FaultKind, KeyWord, counted, fault_if, known, word, ◌>>=◌}
use Rattle.files.specs.declared.faults.FaultKind.TheVariants.{NotFirst, Unknown}
use Rattle.scenario.specs.{BitWord, Heading, Opener, a_process, are_operands, begun as begun_head, bit_at, bit_word_of, bit_words, fault_of, fits_form, has_form, has_row, heading_read, heads, is_operand, is_phrase, number_at, one_bit_of, open_read, opener_of, openers}
use Rattle.scenario.specs.declared.bit_files.BitWord.TheVariants as bits
use Rattle.scenario.specs.declared.forms.Operand.TheVariants as operand
use Rattle.scenario.specs.declared.keywords.Heading.TheVariants.{Processes, Tickets, Stamps, Slots}
use Rattle.scenario.specs.declared.keywords.Opener.TheVariants as opener
use Rattle.scenario.proofs.FileForms.{behind, heading_ok, open_ok}
use Rattle.scenario.proofs.Fitting.{by_rows, if_word, is_read, no_entry, no_row, ok_and, ok_last, ok_operands, ok_then}
use Rattle.scenario.proofs.LineSpelled.{none_of, one_of}
use Rattle.record_file.specs.{access_of, begins_with_digit, copy_of, dotted, field_at, field_of, head_read, kind_in, kind_of, line_said, move_of, pair_read}
use Rattle.record_file.specs.Forms.{begun, is_copy, moves, of_16_bits}
use Rattle.record_file.specs.Reading.{lone_move_of}
use Rattle.record_file.specs.declared.line_kinds.LineKind.{LineKind}
use Rattle.record_file.specs.declared.line_kinds.LineKind.TheVariants as kind

-- moves of one bit, and of none
bit_move : (f : Bool → Move) (ws : List (List ℕ)) → is_ok (one_bit_of ws >>= λ v. Ok (f v)) ≡ are_operands 2 (operand.Bit ∷ []) ws
bit_move f ws =
    ok_last (one_bit_of ws) (λ v. Ok (f v)) (λ v. refl)
    ∙ ok_operands 2 (operand.Bit ∷ []) ws (λ counts. bit_at (word 0 ws)) (λ count. is_read (bit_at (word 0 ws)) ∙ ap (are_operands 2 (operand.Bit ∷ [])) (sym (one_of ws count)))

lone_move : (how : Move) (ws : List (List ℕ)) → is_ok (lone_move_of how ws) ≡ are_operands 2 [] ws
lone_move how ws = ok_operands 2 [] ws (λ counts. Ok how) (λ count. ap (are_operands 2 []) (sym (none_of ws count)))

-- the words of a move
abbrev IsMove : List (List ℕ) → List ℕ → Type 0
IsMove ws w = is_ok (known (lookup (bytes_eq w) bit_words) >>= λ m. move_of m ws) ≡ is_phrase 2 moves w ws

move_has_form : (name : List ℕ) (ws : List (List ℕ)) → is_ok (known (lookup (bytes_eq name) bit_words) >>= λ m. move_of m ws) ≡ is_phrase 2 moves name ws
move_has_form name ws =
    if_word name (codes "bits") (IsMove ws) refl (λ one. if_word name (codes "write") (IsMove ws) (bit_move move.BeginWrite ws) (λ two. if_word name (codes "end") (IsMove ws) (lone_move move.EndWrite ws) (λ three.
    if_word name (codes "settle") (IsMove ws) (bit_move move.Settle ws) (λ four. if_word name (codes "read") (IsMove ws) (lone_move move.BeginRead ws) (λ five. if_word name (codes "value") (IsMove ws) (bit_move move.EndRead ws) (λ six.
    if_word name (codes "drop") (IsMove ws) refl (λ seven.
    ap (λ o. is_ok (known o >>= λ m. move_of m ws)) (no_entry name bit_words (one, (two, (three, (four, (five, (six, (seven, tt))))))))
    ∙ sym (no_row 2 (λ os words. are_operands 2 os words) moves name ws (two, (three, (five, (six, (four, tt)))))))))))))

-- the numbers of a copy
abbrev copy_numbers : List (List ℕ) → Bool
copy_numbers parts = is_operand 2 a_process (word 0 parts) && (is_operand 2 of_16_bits (word 2 parts) && (is_operand 2 a_process (word 3 parts) && true))

abbrev copy_with : Field → Move → ℕ → ℕ → ℕ → Result Access FaultKind
copy_with field how owner bit reader = Ok (record { owner = owner; field = field; bit = bit; reader = reader; how = how })

copy_ok : (parts : List (List ℕ)) (field : Field) (how : Move) → is_ok (copy_of parts field how >>= λ access. Ok (Some access)) ≡ copy_numbers parts
unfolding copy_of
copy_ok parts field how =
    ok_last (copy_of parts field how) (λ access. Ok (Some access)) (λ access. refl)
    ∙ ok_then (number_at 255 (word 0 parts)) (λ owner. number_at 65535 (word 2 parts) >>= λ bit. number_at 255 (word 3 parts) >>= λ reader. copy_with field how owner bit reader) (is_operand 2 of_16_bits (word 2 parts) && (is_operand 2 a_process (word 3 parts) && true))
    (λ owner. ok_then (number_at 65535 (word 2 parts)) (λ bit. number_at 255 (word 3 parts) >>= λ reader. copy_with field how owner bit reader) (is_operand 2 a_process (word 3 parts) && true)
    (λ bit. ok_then (number_at 255 (word 3 parts)) (λ reader. copy_with field how owner bit reader) true (λ reader. refl)))

-- a copy of a bit, and a move
pub access_has_form : (copy name : List ℕ) (ws : List (List ℕ)) → is_ok (access_of (copy ∷ name ∷ ws)) ≡ (is_copy (dotted copy) && is_phrase 2 moves name ws)
unfolding access_of
access_has_form copy name ws = by (dotted copy)
  where
    moved : (parts : List (List ℕ)) (field : Field) (o : Option BitWord) → is_ok (known o >>= λ m. move_of m ws >>= λ how. copy_of parts field how >>= λ access. Ok (Some access)) ≡ (copy_numbers parts && is_ok (known o >>= λ m. move_of m ws))
    moved parts field None = sym (and_right (copy_numbers parts) false refl)
    moved parts field (Some m) = ok_and (move_of m ws) (λ how. copy_of parts field how >>= λ access. Ok (Some access)) (copy_numbers parts) (copy_ok parts field)

    of_field : (parts : List (List ℕ)) (f : Option Field) → is_ok (known f >>= λ field. known (bit_word_of name) >>= λ m. move_of m ws >>= λ how. copy_of parts field how >>= λ access. Ok (Some access)) ≡ ((is_some f && copy_numbers parts) && is_phrase 2 moves name ws)
    of_field parts None = refl
    of_field parts (Some field) = moved parts field (bit_word_of name) ∙ ap (λ b. copy_numbers parts && b) (move_has_form name ws)

    by : (parts : List (List ℕ)) → is_ok (field_at parts >>= λ field. known (bit_word_of name) >>= λ m. move_of m ws >>= λ how. copy_of parts field how >>= λ access. Ok (Some access)) ≡ (is_copy parts && is_phrase 2 moves name ws)
    by parts =
        elim (length parts == 4) as (λ b. is_ok ((fault_if (not b) Unknown >>= λ four. known (field_of (word 1 parts))) >>= λ field. known (bit_word_of name) >>= λ m. move_of m ws >>= λ how. copy_of parts field how >>= λ access. Ok (Some access)) ≡ ((b && (is_some (field_of (word 1 parts)) && copy_numbers parts)) && is_phrase 2 moves name ws))
        [ true ↦ of_field parts (field_of (word 1 parts)) | false ↦ refl ]

-- a heading, and an opening pair
head_ok : (version : ℕ) (h : Heading) (ws : List (List ℕ)) → is_ok (head_read h ws (begun version)) ≡ fits_form version (operand.Heading h ∷ []) [] ws
unfolding head_read
head_ok version h ws = ok_last (heading_read h ws (begun_head version)) (λ head. Ok (record (begun version) { head = head })) (λ head. refl) ∙ heading_ok version h ws

pair_ok : (version : ℕ) (ws : List (List ℕ)) → is_ok (pair_read ws (begun version)) ≡ ((version == 2) && fits_form version (operand.Name ∷ operand.Value ∷ []) [] ws)
unfolding pair_read
pair_ok version ws = guarded (version == 2) (fits_form version (operand.Name ∷ operand.Value ∷ []) [] ws) (open_read ws (begun_head version) >>= λ head. Ok (record (begun version) { head = head })) (ok_last (open_read ws (begun_head version)) (λ head. Ok (record (begun version) { head = head })) (λ head. refl) ∙ open_ok version ws)
  where
    guarded : {A : Type 0} (b c : Bool) (r : Result A FaultKind) → is_ok r ≡ (b && c) → is_ok (fault_if (not b) Unknown >>= λ in_table. r) ≡ (b && c)
    guarded true c r same = same
    guarded false c r same = refl

-- any line that does not begin with a digit
abbrev head_reads : ℕ → List (List ℕ) → List ℕ → Option Opener → Bool
head_reads version ws f o = is_ok (known (kind_in o) >>= λ kind. line_said kind f ws (begun version))

abbrev IsHead : ℕ → List (List ℕ) → List ℕ → Type 0
IsHead version ws f = is_ok (known (if bytes_eq f (codes "record") then Some kind.Record else kind_in (opener_of f)) >>= λ kind. line_said kind f ws (begun version)) ≡ has_form version heads f ws

abbrev IsLaterHead : ℕ → List (List ℕ) → List ℕ → Type 0
IsLaterHead version ws f = head_reads version ws f (opener_of f) ≡ has_form version heads f ws

pub head_has_form : (version : ℕ) (first : List ℕ) (ws : List (List ℕ)) → begins_with_digit first ≡ false → is_ok (known (kind_of first) >>= λ kind. line_said kind first ws (begun version)) ≡ has_form version heads first ws
head_has_form version first ws digit =
    ap (λ b. is_ok (known (if b then Some kind.Entry else if bytes_eq first (codes "record") then Some kind.Record else kind_in (opener_of first)) >>= λ kind. line_said kind first ws (begun version))) digit
    ∙ if_word first (codes "record") (IsHead version ws) refl (λ other. ap (λ b. is_ok (known (if b then Some kind.Record else kind_in (opener_of first)) >>= λ kind. line_said kind first ws (begun version))) other
    ∙ if_word first (codes "bakery") (IsLaterHead version ws) refl (λ is. ap (λ b. head_reads version ws first (cond b (Some opener.Bakery) (lookup (bytes_eq first) (behind openers)))) is
    ∙ by_rows version (λ form words. fits_form version form.0 form.1 words) (head_reads version ws first) first ws refl (behind openers) heads (
      refl,
      head_ok version Processes ws,
      (
        refl,
        head_ok version Tickets ws,
        (
          refl,
          head_ok version Stamps ws,
          (
            refl,
            head_ok version Slots ws,
            (
              refl,
              pair_ok version ws,
              (refl, (refl, (refl, (refl, (refl, (refl, (refl, (refl, (refl, tt))))))))),
            ),
          ),
        ),
      ),
    )))
