-- A write of a register, access by access, and a read that no write disturbs.
use Rattle.std.proofs.Common.{◌≡◌, ◌≢◌, ℕ, ◌+◌, ◌*◌, ◌/◌, ◌%◌, ◌<◌, ◌≤◌, ◌==◌, List, [], ◌∷◌, ◌++◌, Bool, true, false, cond, Some, None, length, refl, sym, ap, subst, ◌∙◌, arith, inl, inr}
use Rattle.std.proofs.lemmas.Bool.{cases_eq, eqb-true, eqb-false, cond-false}
use Rattle.std.proofs.lemmas.List.{length_push}
use Rattle.std.proofs.lemmas.List.FromFn.{map-range_with_len_more}
use Rattle.reader_copies.specs.safe_bit.Cell.{Cell, cell_after, read_answer}
use Rattle.reader_copies.specs.safe_bit.declared.Move.TheVariants.{BeginWrite, EndWrite, BeginRead, EndRead}
use Rattle.reader_copies.specs.{CanMake, HasCell, IsPartlyWritten, IsRow, IsWrite, IsWritten, KeepsWrites, Writing, cell_at, next_read, next_write, row_after, with_cell, write_after}
use Rattle.reader_copies.proofs.Writing.{read-keeps, read_is, partly_written-start, partly_written-carry, partly_written-end, with_cell-same, with_cell-other, HasCell-before, length-with_cell, length-row_with_cell}
use Rattle.reader_copies.proofs.Steps.{write_can, write_on}
use Rattle.safe_number.specs.{IsReading, IsUndisturbed, IsWriting, NumberRead, NumberWrite, bit_in, bit_read, bit_write, first_bits, loaded, new_read, new_write, number_read_after, number_write_after}

pub shape_after : (row : List (List Cell)) (b r : ℕ) (c : Cell) (width : ℕ) → IsRow row width → IsRow (with_cell row b r c) width
shape_after row b r c width shape = record {
  readers = omega (arith, shape.readers, length-row_with_cell row b r c);
  widths = λ reader there. length-with_cell row b r c reader ∙ shape.widths reader (omega (arith, length-row_with_cell row b r c));
}

pub has_cell : (row : List (List Cell)) (width b r : ℕ) → IsRow row width → b < width → r < length row → HasCell row b r
has_cell row width b r shape inside there = record { reader_in = there; bit_in = omega (arith, shape.widths r there) }

pub writing-start : (row : List (List Cell)) (old : ℕ → Bool) (value : List ℕ) (width : ℕ) → IsRow row width → IsWritten row old → IsWriting row old value (new_write width)
writing-start row old value width shape written = record {
  shape = shape;
  inside = omega arith;
  partly = partly_written-start row old (bit_in value) written;
  same = refl;
  going = omega (arith, shape.readers);
  unended = refl;
  whole = λ h. refl;
}

pub writing-can : (row : List (List Cell)) (old : ℕ → Bool) (value : List ℕ) (w : NumberWrite) → IsWriting row old value w → w.bit < w.width → CanMake row w.bit (next_write (bit_write value w))
writing-can row old value w is inside =
    write_can row old (bit_in value) w.bit (bit_write value w) (has_cell row w.width w.bit ((bit_write value w).made / 2) is.shape inside (omega (arith, is.going))) is.partly

-- how far the write is once its present bit has come so far, whether that bit is done or not
abbrev NextWriting : List (List Cell) → (ℕ → Bool) → List ℕ → NumberWrite → ℕ → Bool → Type 0
NextWriting row old value w made ended =
    IsWriting row old value (cond {A = NumberWrite} ended (record { width = w.width; bit = w.bit + 1; run = None }) (record { width = w.width; bit = w.bit; run = Some (record { value = (bit_write value w).value; made = made; ended = ended }) }))

go_on : (row : List (List Cell)) (old : ℕ → Bool) (value : List ℕ) (w : NumberWrite) (made : ℕ) (ended : Bool) → IsRow row w.width → w.bit < w.width → IsPartlyWritten row old (bit_in value) w.bit made → (bit_write value w).value ≡ bit_in value w.bit → made ≤ 2 * length row → (made == 2 * length row) ≡ ended → NextWriting row old value w made ended
go_on row old value w made true shape within partly same fits e = record {
  shape = shape;
  inside = omega arith;
  partly = partly_written-carry row old (bit_in value) w.bit made (eqb-true made (2 * length row) e) partly;
  same = refl;
  going = omega (arith, shape.readers);
  unended = refl;
  whole = λ h. refl;
}
go_on row old value w made false shape within partly same fits e =
    let apart : made ≡ 2 * length row → ⊥ = eqb-false made (2 * length row) e in
    record { shape = shape; inside = omega arith; partly = partly; same = same; going = omega arith; unended = refl; whole = λ h. absurd (omega arith) }

pub writing-on : (row : List (List Cell)) (old : ℕ → Bool) (value : List ℕ) (w : NumberWrite) → IsWriting row old value w → w.bit < w.width → IsWriting (row_after row w.bit (next_write (bit_write value w))) old value (number_write_after (length row) value w)
writing-on row old value w is inside =
    let run : Writing = bit_write value w in
    let there : HasCell row w.bit (run.made / 2) = has_cell row w.width w.bit (run.made / 2) is.shape inside (omega (arith, is.going)) in
    let after : List (List Cell) = row_after row w.bit (next_write run) in
    let P : ℕ → Type 0 = λ n. NextWriting after old value w (run.made + 1) (run.made + 1 == 2 * n) in
    let same_length : length after ≡ length row = length-row_with_cell row w.bit (run.made / 2) (cell_after (cell_at row w.bit (run.made / 2)) (next_write run).how) in
    subst P same_length
    (go_on after old value w (run.made + 1) (run.made + 1 == 2 * length after)
    (shape_after row w.bit (run.made / 2) (cell_after (cell_at row w.bit (run.made / 2)) (next_write run).how) w.width is.shape) inside
    (write_on row old (bit_in value) w.bit run is.same there is.partly) is.same (omega (arith, is.going, same_length)) refl)

pub writing-end : (row : List (List Cell)) (old : ℕ → Bool) (value : List ℕ) (w : NumberWrite) → IsWriting row old value w → w.bit ≡ w.width → IsWritten row (bit_in value)
writing-end row old value w is all =
    partly_written-end row old (bit_in value) w.bit (bit_write value w).made (λ bit reader h. omega (arith, h.bit_in, is.shape.widths reader h.reader_in)) is.partly

-- the width of a write stays
pub width-write_after : (n : ℕ) (value : List ℕ) (w : NumberWrite) → (number_write_after n value w).width ≡ w.width
width-write_after n value w =
    let run : Writing = write_after n (bit_write value w) in
    elim run.ended as (λ b. (cond {A = NumberWrite} b (record { width = w.width; bit = w.bit + 1; run = None }) (record { width = w.width; bit = w.bit; run = Some run })).width ≡ w.width) [ true ↦ refl | false ↦ refl ]

-- an access of the write is one of a write
pub write_is : (value : List ℕ) (w : NumberWrite) → IsWrite (next_write (bit_write value w)).how
write_is value w = elim ((bit_write value w).made % 2 == 0) as (λ b. IsWrite (cond b (BeginWrite (bit_write value w).value) EndWrite)) [ true ↦ tt | false ↦ tt ]

pub reading-start : (row : List (List Cell)) (reader width room : ℕ) → ((bit : ℕ) → HasCell row bit reader → (cell_at row bit reader).reading ≡ false) → IsReading row reader (new_read width room)
reading-start row reader width room idle = record { turn = λ h. idle 0 h; idle = λ bit h ne. idle bit h }

pub undisturbed-start : (row : List (List Cell)) (v : ℕ → Bool) (reader width room : ℕ) → IsUndisturbed row v reader (new_read width room)
undisturbed-start row v reader width room = record { so_far = refl; untouched = λ h e. absurd (cc) }

-- a read goes on by its own next access
reading_on : (row : List (List Cell)) (reader width room : ℕ) (bits : List Bool) (begun flick : Bool) → HasCell row (length bits) reader
    → let r : NumberRead = record { width = width; bits = bits; begun = begun; room = room } in
    let v : Bool = loaded row reader r flick in
    IsReading row reader r → IsReading (row_after row (length bits) (next_read reader (bit_read r) v)) reader (number_read_after r v)
reading_on row reader width room bits true flick there is =
    let c : Cell = cell_at row (length bits) reader in
    let a : Bool = read_answer c flick in
    let d : Cell = cell_after c (EndRead a) in
    let more : length (bits ++ a ∷ []) ≡ length bits + 1 = length_push bits a in
    record {
      turn = λ h. ap (λ (x : Cell). x.reading) (with_cell-other row (length bits) reader d (length (bits ++ a ∷ [])) reader (λ x y. omega arith))
          ∙ is.idle (length (bits ++ a ∷ [])) (HasCell-before row (length bits) reader d (length (bits ++ a ∷ [])) reader h) (omega arith);
      idle = λ bit h ne. elim (cases_eq bit (length bits)) [
        | inl e ↦ ap (λ k. (cell_at (with_cell row (length bits) reader d) k reader).reading) e ∙ ap (λ (x : Cell). x.reading) (with_cell-same row (length bits) reader d there)
        | inr f ↦ ap (λ (x : Cell). x.reading) (with_cell-other row (length bits) reader d bit reader (λ x y. f x)) ∙ is.idle bit (HasCell-before row (length bits) reader d bit reader h) f
      ];
    }
reading_on row reader width room bits false flick there is =
    let c : Cell = cell_at row (length bits) reader in
    let d : Cell = cell_after c BeginRead in
    record {
      turn = λ h. ap (λ (x : Cell). x.reading) (with_cell-same row (length bits) reader d there);
      idle = λ bit h ne. ap (λ (x : Cell). x.reading) (with_cell-other row (length bits) reader d bit reader (λ x y. ne x)) ∙ is.idle bit (HasCell-before row (length bits) reader d bit reader h) ne;
    }

pub reading-on : (row : List (List Cell)) (reader : ℕ) (r : NumberRead) (flick : Bool) → HasCell row (length r.bits) reader → IsReading row reader r → IsReading (row_after row (length r.bits) (next_read reader (bit_read r) (loaded row reader r flick))) reader (number_read_after r (loaded row reader r flick))
reading-on row reader r flick there is = reading_on row reader r.width r.room r.bits r.begun flick there is

undisturbed_on : (row : List (List Cell)) (v : ℕ → Bool) (reader width room : ℕ) (bits : List Bool) (begun flick : Bool) → HasCell row (length bits) reader → IsWritten row v
    → let r : NumberRead = record { width = width; bits = bits; begun = begun; room = room } in
    let x : Bool = loaded row reader r flick in
    IsUndisturbed row v reader r → IsUndisturbed (row_after row (length bits) (next_read reader (bit_read r) x)) v reader (number_read_after r x)
undisturbed_on row v reader width room bits true flick there written is =
    let c : Cell = cell_at row (length bits) reader in
    let a : Bool = read_answer c flick in
    let right : a ≡ v (length bits) = cond-false c.touched flick c.value (is.untouched there refl) ∙ (written.copies (length bits) reader there).value in
    record {
      so_far = ap (λ b. bits ++ b ∷ []) right ∙ ap (λ bs. bs ++ v (length bits) ∷ []) is.so_far
          ∙ sym (map-range_with_len_more v 0 (length bits) (length bits) (omega arith)) ∙ ap (first_bits v) (sym (length_push bits a));
      untouched = λ h e. absurd (cc);
    }
undisturbed_on row v reader width room bits false flick there written is =
    let c : Cell = cell_at row (length bits) reader in
    let d : Cell = cell_after c BeginRead in
    record {
      so_far = is.so_far;
      untouched = λ h e. ap (λ (x : Cell). x.touched) (with_cell-same row (length bits) reader d there) ∙ (written.copies (length bits) reader there).closed;
    }

pub undisturbed-on : (row : List (List Cell)) (v : ℕ → Bool) (reader : ℕ) (r : NumberRead) (flick : Bool) → HasCell row (length r.bits) reader → IsWritten row v → IsUndisturbed row v reader r → IsUndisturbed (row_after row (length r.bits) (next_read reader (bit_read r) (loaded row reader r flick))) v reader (number_read_after r (loaded row reader r flick))
undisturbed-on row v reader r flick there written is = undisturbed_on row v reader r.width r.room r.bits r.begun flick there written is

-- a change of another reader's copy leaves it as it is
pub reading-apart : (row : List (List Cell)) (reader : ℕ) (r : NumberRead) (bit other : ℕ) (d : Cell) → other ≢ reader → IsReading row reader r → IsReading (with_cell row bit other d) reader r
reading-apart row reader r bit other d apart is = record {
  turn = λ h. ap (λ (x : Cell). x.reading) (with_cell-other row bit other d (length r.bits) reader (λ x y. apart (sym y))) ∙ is.turn (HasCell-before row bit other d (length r.bits) reader h);
  idle = λ k h ne. ap (λ (x : Cell). x.reading) (with_cell-other row bit other d k reader (λ x y. apart (sym y))) ∙ is.idle k (HasCell-before row bit other d k reader h) ne;
}

pub undisturbed-apart : (row : List (List Cell)) (v : ℕ → Bool) (reader : ℕ) (r : NumberRead) (bit other : ℕ) (d : Cell) → other ≢ reader → IsUndisturbed row v reader r → IsUndisturbed (with_cell row bit other d) v reader r
undisturbed-apart row v reader r bit other d apart is = record {
  so_far = is.so_far;
  untouched = λ h e. ap (λ (x : Cell). x.touched) (with_cell-other row bit other d (length r.bits) reader (λ x y. apart (sym y))) ∙ is.untouched (HasCell-before row bit other d (length r.bits) reader h) e;
}

-- an access of a read leaves the values and the writes
pub read_keeps : (row : List (List Cell)) (reader : ℕ) (r : NumberRead) (v : Bool) → HasCell row (length r.bits) reader → KeepsWrites row (row_after row (length r.bits) (next_read reader (bit_read r) v))
read_keeps row reader r v there = read-keeps row (length r.bits) (next_read reader (bit_read r) v) there (read_is reader (bit_read r) v)
