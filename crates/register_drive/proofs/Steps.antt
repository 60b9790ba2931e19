-- One access of a write, as the register's contract describes it.
use Rattle.std.proofs.Common.{◌≡◌, ◌≢◌, ℕ, ◌+◌, ◌<◌, ◌≤◌, ◌==◌, ◌||◌, List, Bool, true, false, cond, Some, length, refl, sym, ap, subst, ◌∙◌, arith}
use Rattle.std.proofs.lemmas.List.{length_push}
use Rattle.std.proofs.lemmas.Bool.{eqb-true, eqb-false}
use Rattle.reader_copies.specs.safe_bit.Cell.{Cell}
use Rattle.reader_copies.specs.{HasCell, IsAt, IsRow, IsWrite, IsWritten, Made, Progress, Settling, cell_at, is_open_at, new_row, next_read, next_settle, next_write, progress_of, row_after, settle_after, settled_at}
use Rattle.reader_copies.specs.declared.Progress.TheVariants.{Going, Done}
use Rattle.reader_copies.specs.safe_bit.declared.Move.TheVariants.{BeginWrite, EndWrite, Settle}
use Rattle.reader_copies.proofs.Writing.{reading-kept, HasCell-before, length-row_with_cell, written-kept, new_row-cell}
use Rattle.safe_number.specs.{IsReading, IsSettling, IsUndisturbed, IsWriting, NumberRead, NumberWrite, bit_read, bit_write, loaded, number_read_after, number_write_after}
use Rattle.safe_number.proofs.IntervalSteps.{settling-on, settled-stays}
use Rattle.safe_number.proofs.WrittenSteps.{writing-can, writing-on, write_is, has_cell, shape_after, reading-on, undisturbed-on, read_keeps}
use Rattle.reader_copies.specs.safe_bit.{cell_after}
use Rattle.register_drive.specs.{IsIdle, ReadsAlong}

made_row : (row : List (List Cell)) (b b' : ℕ) (m m' : Made) → b ≡ b' → m ≡ m' → row_after row b m ≡ row_after row b' m'
made_row row b b' m m' e f = ap (λ x. row_after row x m) e ∙ ap (row_after row b') f

pub step_on : (row row' : List (List Cell)) (old : ℕ → Bool) (value : List ℕ) (w w' : NumberWrite) (b : ℕ) (m : Made) → IsWriting row old value w → w.bit < w.width → b ≡ w.bit → m ≡ next_write (bit_write value w) → row' ≡ row_after row b m → w' ≡ number_write_after (length row) value w → IsWriting row' old value w'
step_on row row' old value w w' b m is inside eb em er ew =
    let P : List (List Cell) → Type 0 = λ x. IsWriting x old value w' in
    let Q : NumberWrite → Type 0 = λ x. IsWriting (row_after row w.bit (next_write (bit_write value w))) old value x in
    subst P (sym (er ∙ made_row row b w.bit m (next_write (bit_write value w)) eb em)) (subst Q (sym ew) (writing-on row old value w is inside))

pub step_idle : (row row' : List (List Cell)) (old : ℕ → Bool) (value : List ℕ) (w : NumberWrite) (b : ℕ) (m : Made) (reader : ℕ) → IsWriting row old value w → w.bit < w.width → b ≡ w.bit → m ≡ next_write (bit_write value w) → row' ≡ row_after row b m → IsIdle row reader → IsIdle row' reader
step_idle row row' old value w b m reader is inside eb em er idle =
    let P : List (List Cell) → Type 0 = λ x. IsIdle x reader in
    subst P (sym (er ∙ made_row row b w.bit m (next_write (bit_write value w)) eb em)) (record {
      idle = λ bit h.
          reading-kept row w.bit (next_write (bit_write value w)).reader (next_write (bit_write value w)).how bit reader (writing-can row old value w is inside).there (write_is value w)
          ∙ idle.idle bit (HasCell-before row w.bit (next_write (bit_write value w)).reader _ bit reader h);
    })

done_at : (b : Bool) → progress_of b ≡ Done → b ≡ true
done_at true e = refl
done_at false e = absurd (cc)

going_at : (b : Bool) → progress_of b ≡ Going → b ≡ false
going_at true e = absurd (cc)
going_at false e = refl

pub step_length : (row row' : List (List Cell)) (b : ℕ) (m : Made) → row' ≡ row_after row b m → length row' ≡ length row
step_length row row' b m e = ap length e ∙ length-row_with_cell row b m.reader _

-- one access of a read
pub read_on_so : (start row row' : List (List Cell)) (reader width : ℕ) (r r' : NumberRead) (b : ℕ) (m : Made) (flick : Bool) → reader < length row → ReadsAlong start row reader width r
    → b ≡ length r.bits → m ≡ next_read reader (bit_read r) (loaded row reader r flick) → row' ≡ row_after row b m → r' ≡ number_read_after r (loaded row reader r flick)
    → IsRow row' width × IsReading row' reader r' × ((v : ℕ → Bool) → IsWritten start v → IsWritten row' v × IsUndisturbed row' v reader r')
read_on_so start row row' reader width r r' b m flick in_row along eb em er ew =
    let there : HasCell row (length r.bits) reader = has_cell row width (length r.bits) reader along.shape along.going in_row in
    let x : Bool = loaded row reader r flick in
    let next : Made = next_read reader (bit_read r) x in
    let after : List (List Cell) = row_after row (length r.bits) next in
    let er' : row' ≡ after = er ∙ made_row row b (length r.bits) m next eb em in
    let P : List (List Cell) → Type 0 = λ y. IsRow y width in
    let Q : List (List Cell) → NumberRead → Type 0 = λ y z. IsReading y reader z in (
      subst P (sym er') (shape_after row (length r.bits) next.reader (cell_after (cell_at row (length r.bits) reader) next.how) width along.shape),
      subst (λ y. Q y r') (sym er') (subst (λ z. Q after z) (sym ew) (reading-on row reader r flick there along.reading)),
      λ v h.
          let S : List (List Cell) → Type 0 = λ y. IsWritten y v in
          let T : List (List Cell) → NumberRead → Type 0 = λ y z. IsUndisturbed y v reader z in (
            subst S (sym er') (written-kept row after v (read_keeps row reader r x there) (along.written v h)),
            subst (λ y. T y r') (sym er') (subst (λ z. T after z) (sym ew) (undisturbed-on row v reader r flick there (along.written v h) (along.undisturbed v h))),
          ),
    )

-- it reads at most one bit more
bits_step : (width room : ℕ) (bits : List Bool) (begun v : Bool) → let r : NumberRead = record { width = width; bits = bits; begun = begun; room = room } in length (number_read_after r v).bits ≤ length bits + 1
bits_step width room bits true v = omega (arith, length_push bits v)
bits_step width room bits false v = omega arith

pub read_bits : (r r' : NumberRead) (v : Bool) → r' ≡ number_read_after r v → length r'.bits ≤ length r.bits + 1
read_bits r r' v e = omega (arith, ap (λ (x : NumberRead). length x.bits) e, bits_step r.width r.room r.bits r.begun v)

pub end_of : (a b : ℕ) (p : Progress) → p ≡ progress_of (a == b) → p ≡ Done → a ≡ b
end_of a b p e d = eqb-true a b (done_at (a == b) (sym e ∙ d))

pub not_end_of : (a b : ℕ) (p : Progress) → p ≡ progress_of (a == b) → p ≡ Going → a ≢ b
not_end_of a b p e d = eqb-false a b (going_at (a == b) (sym e ∙ d))

pub new_written : (width readers : ℕ) (row : List (List Cell)) → row ≡ new_row width readers → IsWritten row (λ _. false)
new_written width readers row e = record {
  copies = λ bit reader h.
      let P : Cell → Type 0 = λ x. IsAt x false in
      subst P (sym (ap (λ x. cell_at x bit reader) e ∙ new_row-cell width readers bit reader)) (record { closed = refl; value = refl });
}

pub new_idle : (width readers : ℕ) (row : List (List Cell)) (reader : ℕ) → row ≡ new_row width readers → IsIdle row reader
new_idle width readers row reader e = record {
  idle = λ bit h. ap (λ (x : Cell). x.reading) (ap (λ x. cell_at x bit reader) e ∙ new_row-cell width readers bit reader);
}

-- one access of a settling
pub settle_on_so : (row row' : List (List Cell)) (width : ℕ) (others : ℕ → Bool) (b : ℕ) (t t' : Settling) (v : Bool) (b' : ℕ) (m : Made) → IsRow row width → b < width → t.reader < length row → IsSettling row others b t
    → b' ≡ b → m ≡ next_settle t (settled_at t v) → row' ≡ row_after row b' m → t' ≡ settle_after t (settled_at t v) → IsSettling row' others b t'
settle_on_so row row' width others b t t' v b' m shape inside turn is eb em er et =
    let P : List (List Cell) → Settling → Type 0 = λ x y. IsSettling x others b y in
    let after : List (List Cell) = row_after row b (next_settle t (settled_at t v)) in
    subst (λ x. P x t') (sym (er ∙ made_row row b' b m (next_settle t (settled_at t v)) eb em))
    (subst (λ y. P after y) (sym et) (settling-on row others b t v (has_cell row width b t.reader shape inside turn) is))

pub settle_shape : (row row' : List (List Cell)) (width b : ℕ) (m : Made) → IsRow row width → row' ≡ row_after row b m → IsRow row' width
settle_shape row row' width b m shape er = let P : List (List Cell) → Type 0 = λ x. IsRow x width in subst P (sym er) (shape_after row b m.reader (cell_after (cell_at row b m.reader) m.how) width shape)

settle_how : (begun is_open v : Bool) → IsWrite (cond begun EndWrite (cond is_open (Settle v) (BeginWrite v)))
settle_how true is_open v = tt
settle_how false true v = tt
settle_how false false v = tt

settle_is : (t : Settling) (v : Bool) → IsWrite (next_settle t v).how
settle_is t v = settle_how t.begun (is_open_at t.made t.reader) v

pub settle_idle : (row row' : List (List Cell)) (width b : ℕ) (t : Settling) (v : Bool) (b' : ℕ) (m : Made) (reader : ℕ) → IsRow row width → b < width → t.reader < length row
    → b' ≡ b → m ≡ next_settle t (settled_at t v) → row' ≡ row_after row b' m → IsIdle row reader → IsIdle row' reader
settle_idle row row' width b t v b' m reader shape inside turn eb em er idle =
    let next : Made = next_settle t (settled_at t v) in
    let P : List (List Cell) → Type 0 = λ x. IsIdle x reader in
    subst P (sym (er ∙ made_row row b' b m next eb em)) (record {
      idle = λ bit h.
          reading-kept row b next.reader next.how bit reader (has_cell row width b t.reader shape inside turn) (settle_is t (settled_at t v))
          ∙ idle.idle bit (HasCell-before row b next.reader _ bit reader h);
    })

pub settled_value : (t t' : Settling) (v : Bool) → t' ≡ settle_after t (settled_at t v) → settled_at t v ≡ v → settled_at t' v ≡ v
settled_value t t' v e same = ap (λ u. settled_at u v) e ∙ settled-stays t v same

reader_on : (made reader : ℕ) (next v : Bool) → (cond {A = Settling} next (record { made = made; reader = reader + 1; begun = false; value = Some v }) (record { made = made; reader = reader; begun = true; value = Some v })).reader ≤ reader + 1
reader_on made reader true v = omega arith
reader_on made reader false v = omega arith

-- a settling stays at its copy or continues with the next
pub settled_reader : (t t' : Settling) (v : Bool) → t' ≡ settle_after t v → t'.reader ≤ t.reader + 1
settled_reader t t' v e = omega (arith, ap (λ (x : Settling). x.reader) e, reader_on t.made t.reader (t.begun || is_open_at t.made t.reader) v)
