-- The effect of a write, its settling and a read on a register, over whole intervals.
use Rattle.std.proofs.Common.{◌≡◌, ◌≢◌, ℕ, ◌+◌, ◌<◌, ◌==◌, ◌||◌, List, [], ◌∷◌, Bool, true, false, cond, Option, Some, None, unwrap_or, length, refl, sym, ap, subst, ◌∙◌, arith, inl, inr}
use Rattle.std.proofs.lemmas.Bool.{eqb-true, eq-eqb, cases_lt}
use Rattle.reader_copies.specs.safe_bit.{Move}
use Rattle.reader_copies.specs.safe_bit.Cell.{Cell, cell_after, without_read}
use Rattle.reader_copies.specs.{CanMake, DropsAt, HasCell, IsPartlySettled, IsPartlyWritten, IsReadCall, IsRow, IsWritten, MakesAt, RowCall, Settling, Writing, cell_at, cut_values, is_open_at, next_read, next_settle, row_after, row_after_call, settle_after, settled_at, with_value}
use Rattle.reader_copies.proofs.Writing.{call-keeps, written-kept, partly_written-kept, partly_settled-kept, partly_written-cut, length-row_with_cell}
use Rattle.reader_copies.proofs.Steps.{settle_starts, settle_on, settle_done}
use Rattle.safe_number.specs.{IsSettleInterval, IsSettling, IsUndisturbed, IsUndisturbedInterval, IsWriteInterval, IsWriting, Moment, NumberRead, NumberWrite, Other, Own, ReadState, SettleState, WriteState, bit_in, bit_read, bit_write, first_bits, first_given, loaded, new_read, read_interval, read_moment, reader_of, settle_interval, settle_moment, torn_bit, torn_run, torn_with, write_interval}
use Rattle.safe_number.proofs.WrittenSteps.{shape_after, has_cell, writing-on, undisturbed-start, undisturbed-on, undisturbed-apart, read_keeps}

-- the settling of a write that was cut after `made` accesses, before its first access
abbrev torn_at : ℕ → Settling
torn_at made = record { made = made; reader = 0; begun = false; value = None }

some_torn : (k : ℕ) (torn : Settling) → torn_with k (Some torn) ≡ None → ⊥
some_torn k torn e = cc

-- a call keeps the shape of a row
shape_call : (row : List (List Cell)) (call : RowCall) (width : ℕ) → IsRow row width → IsRow (row_after_call row call) width
shape_call row (MakesAt bit made) width shape = shape_after row bit made.reader (cell_after (cell_at row bit made.reader) made.how) width shape
shape_call row (DropsAt bit reader) width shape = shape_after row bit reader (without_read (cell_at row bit reader)) width shape

length_call : (row : List (List Cell)) (call : RowCall) → length (row_after_call row call) ≡ length row
length_call row (MakesAt bit made) = length-row_with_cell row bit made.reader (cell_after (cell_at row bit made.reader) made.how)
length_call row (DropsAt bit reader) = length-row_with_cell row bit reader (without_read (cell_at row bit reader))

-- reads of others leave a write where it is
writing_call : (row : List (List Cell)) (old : ℕ → Bool) (value : List ℕ) (w : NumberWrite) (call : RowCall) → IsReadCall row call → IsWriting row old value w → IsWriting (row_after_call row call) old value w
writing_call row old value w call reads is = record {
  shape = shape_call row call w.width is.shape;
  inside = is.inside;
  partly = partly_written-kept row (row_after_call row call) old (bit_in value) w.bit (bit_write value w).made (call-keeps row call reads) is.partly;
  same = is.same;
  going = omega (arith, is.going, length_call row call);
  unended = is.unended;
  whole = is.whole;
}

-- over a whole interval a write has come as far as its cursor
pub writing-interval : (old : ℕ → Bool) (value : List ℕ) (s : WriteState) (moments : List Moment) → IsWriting s.row old value s.run → IsWriteInterval value s moments → IsWriting (write_interval value s moments).row old value (write_interval value s moments).run
writing-interval old value s [] is turns = is
writing-interval old value s (Own x ∷ moments) is turns =
    let t : WriteState = write_interval value s moments in
    writing-on t.row old value t.run (writing-interval old value s moments is turns.1) turns.0
writing-interval old value s (Other call ∷ moments) is turns =
    let t : WriteState = write_interval value s moments in
    writing_call t.row old value t.run call turns.0 (writing-interval old value s moments is turns.1)

-- a write without a torn bit is between two bits
between_as : (k : ℕ) (run : Writing) (unbegun : Bool) → (run.made == 0) ≡ unbegun → run.ended ≡ false → torn_with k (cond (unbegun || run.ended) None (Some (torn_at run.made))) ≡ None → run.made ≡ 0
between_as k run true e unended none = eqb-true run.made 0 e
between_as k run false e unended none =
    absurd (some_torn k (torn_at run.made) (ap (λ b. torn_with k (cond {A = Option Settling} b None (Some (torn_at run.made)))) (sym unended) ∙ none))

between : (k : ℕ) (run : Option Writing) (fresh : Writing) → fresh.made ≡ 0 → (unwrap_or run fresh).ended ≡ false → torn_run k run ≡ None → (unwrap_or run fresh).made ≡ 0
between k None fresh new unended none = new
between k (Some run) fresh new unended none = between_as k run (run.made == 0) refl unended none

pub cut-between : (row : List (List Cell)) (old : ℕ → Bool) (value : List ℕ) (w : NumberWrite) → IsWriting row old value w → torn_bit w ≡ None → IsWritten row (cut_values old (bit_in value) w.bit)
cut-between row old value w is none =
    let start : (bit_write value w).made ≡ 0 = between w.bit w.run (record { value = bit_in value w.bit; made = 0; ended = false }) refl is.unended none in
    let P : ℕ → Type 0 = λ m. IsPartlyWritten row old (bit_in value) w.bit m in
    partly_written-cut row old (bit_in value) w.bit (subst P start is.partly)

-- the torn bit is the present one, and all of it is left to settle
torn_as : (k : ℕ) (made : ℕ) (none : Bool) (b : ℕ) (torn : Settling) → torn_with k (cond none None (Some (torn_at made))) ≡ Some (b, torn) → (k ≡ b) × (torn_at made ≡ torn)
torn_as k made true b torn e = absurd (cc)
torn_as k made false b torn e =
    let found : ℕ × Settling = (k, torn_at made) in
    let wanted : ℕ × Settling = (b, torn) in
    let same : found ≡ wanted = cc in (ap (λ (p : ℕ × Settling). p.0) same, ap (λ (p : ℕ × Settling). p.1) same)

torn_is : (k : ℕ) (run : Option Writing) (fresh : Writing) (b : ℕ) (torn : Settling) → torn_run k run ≡ Some (b, torn) → (k ≡ b) × (torn_at (unwrap_or run fresh).made ≡ torn)
torn_is k None fresh b torn e = absurd (cc)
torn_is k (Some run) fresh b torn e = torn_as k run.made (run.made == 0 || run.ended) b torn e

-- the effect of one access on a settling
made-settle : (t : Settling) (v : Bool) → (settle_after t v).made ≡ t.made
made-settle t v = elim (t.begun || is_open_at t.made t.reader) as (λ b. (cond {A = Settling} b (record { made = t.made; reader = t.reader + 1; begun = false; value = Some v }) (record { made = t.made; reader = t.reader; begun = true; value = Some v })).made ≡ t.made) [ true ↦ refl | false ↦ refl ]

value-settle : (t : Settling) (v : Bool) → (settle_after t v).value ≡ Some v
value-settle t v = elim (t.begun || is_open_at t.made t.reader) as (λ b. (cond {A = Settling} b (record { made = t.made; reader = t.reader + 1; begun = false; value = Some v }) (record { made = t.made; reader = t.reader; begun = true; value = Some v })).value ≡ Some v) [ true ↦ refl | false ↦ refl ]

settled_twice : (given : Option Bool) (x : Bool) → unwrap_or given (unwrap_or given x) ≡ unwrap_or given x
settled_twice None x = refl
settled_twice (Some v) x = refl

-- the next access of a settling may be made
pub settling-can : (row : List (List Cell)) (others : ℕ → Bool) (b : ℕ) (t : Settling) (x : Bool) → HasCell row b t.reader → IsSettling row others b t → CanMake row b (next_settle t (settled_at t x))
settling-can row others b t x there is = (settle_on row others b (settled_at t x) t.made t.reader t.begun t.value there (is.partly (settled_at t x) (settled_twice t.value x))).0

-- the next access of a settling brings it one further
pub settling-on : (row : List (List Cell)) (others : ℕ → Bool) (b : ℕ) (t : Settling) (x : Bool) → HasCell row b t.reader → IsSettling row others b t → IsSettling (row_after row b (next_settle t (settled_at t x))) others b (settle_after t (settled_at t x))
settling-on row others b t x there is =
    let v : Bool = settled_at t x in
    let u : Settling = settle_after t v in
    let after : List (List Cell) = row_after row b (next_settle t v) in
    let on = settle_on row others b v t.made t.reader t.begun t.value there (is.partly v (settled_twice t.value x)) in
    record {
      partly = λ w e.
          let same : v ≡ w = sym (ap (λ o. unwrap_or o w) (value-settle t v)) ∙ e in
          let P : Bool → Type 0 = λ y. IsPartlySettled after others b u.made y u.reader u.begun in
          let Q : ℕ → Type 0 = λ m. IsPartlySettled after others b m v u.reader u.begun in
          subst P same (subst Q (sym (made-settle t v)) on.1);
    }

-- the value that is handed in first stays the one that is settled at
pub settled-stays : (t : Settling) (v : Bool) → settled_at t v ≡ v → settled_at (settle_after t (settled_at t v)) v ≡ v
settled-stays t v e = ap (λ o. unwrap_or o v) (value-settle t (settled_at t v)) ∙ e

-- reads of others leave a settling where it is
settling_call : (row : List (List Cell)) (others : ℕ → Bool) (b : ℕ) (t : Settling) (call : RowCall) → IsReadCall row call → IsSettling row others b t → IsSettling (row_after_call row call) others b t
settling_call row others b t call reads is = record {
  partly = λ w e. partly_settled-kept row (row_after_call row call) others b t.made w t.reader t.begun (call-keeps row call reads) (is.partly w e);
}

-- past the last copy it is done
pub settling-end : (row : List (List Cell)) (others : ℕ → Bool) (b : ℕ) (t : Settling) (v : Bool) → IsSettling row others b t → settled_at t v ≡ v → t.reader ≡ length row → IsWritten row (with_value others b v)
settling-end row others b t v is e all =
    let so : IsPartlySettled row others b t.made v t.reader t.begun = is.partly v e in
    settle_done row others b t.made v t.reader all (record {
      apart = so.apart;
      done = so.done;
      opened = λ h f. absurd (cc);
      next = λ h f. absurd (omega (arith, h.reader_in));
      rest = so.rest;
    })

-- a write that was cut is settled from its first copy on
pub settling-start : (row : List (List Cell)) (old : ℕ → Bool) (value : List ℕ) (w : NumberWrite) (b : ℕ) (torn : Settling) → IsWriting row old value w → torn_bit w ≡ Some (b, torn) → IsSettling row (cut_values old (bit_in value) b) b torn
settling-start row old value w b torn is cut =
    let which = torn_is w.bit w.run (record { value = bit_in value w.bit; made = 0; ended = false }) b torn cut in
    let P : ℕ → Bool → Type 0 = λ k y. IsPartlySettled row (cut_values old (bit_in value) k) k (bit_write value w).made y 0 false in
    let Q : Settling → Bool → Type 0 = λ t y. IsPartlySettled row (cut_values old (bit_in value) b) b t.made y t.reader t.begun in
    record { partly = λ y e. subst (λ t. Q t y) which.1 (subst (λ k. P k y) which.0 (settle_starts row old (bit_in value) w.bit (bit_write value w).made y is.partly)) }

-- the torn bit is the present one, and nothing was handed in
pub torn-start : (value : List ℕ) (w : NumberWrite) (b : ℕ) (torn : Settling) → torn_bit w ≡ Some (b, torn) → (w.bit ≡ b) × (torn.value ≡ None) × (torn.reader ≡ 0)
torn-start value w b torn cut =
    let which = torn_is w.bit w.run (record { value = bit_in value w.bit; made = 0; ended = false }) b torn cut in
    (which.0, ap (λ (t : Settling). t.value) (sym which.1), ap (λ (t : Settling). t.reader) (sym which.1))

-- the torn bit is a bit of the register
not_torn : (k : ℕ) (run : Option Writing) (fresh : Writing) (b : ℕ) (torn : Settling) → (unwrap_or run fresh).made ≡ 0 → torn_run k run ≡ Some (b, torn) → ⊥
not_torn k None fresh b torn none cut = cc
not_torn k (Some run) fresh b torn none cut =
    let unbegun : torn_with k None ≡ torn_run k (Some run) = ap (λ u. torn_with k (cond {A = Option Settling} (u || run.ended) None (Some (torn_at run.made)))) (sym (eq-eqb run.made 0 none)) in
    cc

pub torn-inside : (row : List (List Cell)) (old : ℕ → Bool) (value : List ℕ) (w : NumberWrite) (b : ℕ) (torn : Settling) → IsWriting row old value w → torn_bit w ≡ Some (b, torn) → b < w.width
torn-inside row old value w b torn is cut = elim (cases_lt w.bit w.width) [
  | inl inside ↦ omega (arith, (torn-start value w b torn cut).0)
  | inr past ↦ absurd (not_torn w.bit w.run (record { value = bit_in value w.bit; made = 0; ended = false }) b torn (is.whole past) cut)
]

-- over a whole interval
record SettledSoFar (width b : ℕ) (others : ℕ → Bool) (s : SettleState) : Type 0 where
  pub shape : IsRow s.row width
  pub settling : IsSettling s.row others b s.torn

settled_own : (width b : ℕ) (others : ℕ → Bool) (s : SettleState) (x : Bool) → b < width → s.torn.reader < length s.row → SettledSoFar width b others s → SettledSoFar width b others (settle_moment b s (Own x))
settled_own width b others s x inside turn so = record {
  shape = shape_after s.row b s.torn.reader (cell_after (cell_at s.row b s.torn.reader) (next_settle s.torn (settled_at s.torn x)).how) width so.shape;
  settling = settling-on s.row others b s.torn x (has_cell s.row width b s.torn.reader so.shape inside turn) so.settling;
}

settled_call : (width b : ℕ) (others : ℕ → Bool) (s : SettleState) (call : RowCall) → IsReadCall s.row call → SettledSoFar width b others s → SettledSoFar width b others (settle_moment b s (Other call))
settled_call width b others s call reads so = record {
  shape = shape_call s.row call width so.shape;
  settling = settling_call s.row others b s.torn call reads so.settling;
}

settled_interval : (width b : ℕ) (others : ℕ → Bool) (s : SettleState) (moments : List Moment) → b < width → SettledSoFar width b others s → IsSettleInterval b s moments → SettledSoFar width b others (settle_interval b s moments)
settled_interval width b others s [] inside so turns = so
settled_interval width b others s (Own x ∷ moments) inside so turns = settled_own width b others (settle_interval b s moments) x inside turns.0 (settled_interval width b others s moments inside so turns.1)
settled_interval width b others s (Other call ∷ moments) inside so turns = settled_call width b others (settle_interval b s moments) call turns.0 (settled_interval width b others s moments inside so turns.1)

-- it settles at the bit that was handed in first
given-first : (b : ℕ) (s : SettleState) (moments : List Moment) → s.torn.value ≡ None → (settle_interval b s moments).torn.value ≡ first_given moments
given-first b s [] none = none
given-first b s (Own x ∷ moments) none =
    let t : SettleState = settle_interval b s moments in
    value-settle t.torn (settled_at t.torn x) ∙ ap (λ o. Some (unwrap_or o x)) (given-first b s moments none)
given-first b s (Other call ∷ moments) none = given-first b s moments none

pub cut-settled : (row : List (List Cell)) (old : ℕ → Bool) (value : List ℕ) (w : NumberWrite) (b : ℕ) (torn : Settling) (moments : List Moment) (v : Bool) → IsWriting row old value w → torn_bit w ≡ Some (b, torn)
    → let s : SettleState = settle_interval b (record { row = row; torn = torn }) moments in
    IsSettleInterval b (record { row = row; torn = torn }) moments → first_given moments ≡ Some v → s.torn.reader ≡ length s.row → IsWritten s.row (with_value (cut_values old (bit_in value) b) b v)
cut-settled row old value w b torn moments v is cut turns first all =
    let start : SettleState = record { row = row; torn = torn } in
    let s : SettleState = settle_interval b start moments in
    let others : ℕ → Bool = cut_values old (bit_in value) b in
    let which : (w.bit ≡ b) × (torn.value ≡ None) × (torn.reader ≡ 0) = torn-start value w b torn cut in
    let there : b < w.width = torn-inside row old value w b torn is cut in
    let so : SettledSoFar w.width b others s = settled_interval w.width b others start moments there (record { shape = is.shape; settling = settling-start row old value w b torn is cut }) turns in
    let at : settled_at s.torn v ≡ v = ap (λ o. unwrap_or o v) (given-first b start moments which.1 ∙ first) in
    settling-end s.row others b s.torn v so.settling at all

-- a read that no write meets has come so far
record ReadSoFar (width reader : ℕ) (v : ℕ → Bool) (s : ReadState) : Type 0 where
  pub shape : IsRow s.row width
  pub readers : reader < length s.row
  pub width_is : s.run.width ≡ width
  pub written : IsWritten s.row v
  pub undisturbed : IsUndisturbed s.row v reader s.run

undisturbed_call : (row : List (List Cell)) (v : ℕ → Bool) (reader : ℕ) (r : NumberRead) (call : RowCall) → reader_of call ≢ reader → IsUndisturbed row v reader r → IsUndisturbed (row_after_call row call) v reader r
undisturbed_call row v reader r (MakesAt bit made) apart is = undisturbed-apart row v reader r bit made.reader (cell_after (cell_at row bit made.reader) made.how) apart is
undisturbed_call row v reader r (DropsAt bit other) apart is = undisturbed-apart row v reader r bit other (without_read (cell_at row bit other)) apart is

read_own : (width reader : ℕ) (v : ℕ → Bool) (s : ReadState) (flick : Bool) → length s.run.bits < s.run.width → ReadSoFar width reader v s → ReadSoFar width reader v (read_moment reader s (Own flick))
read_own width reader v s flick inside so =
    let x : Bool = loaded s.row reader s.run flick in
    let there : HasCell s.row (length s.run.bits) reader = has_cell s.row width (length s.run.bits) reader so.shape (omega (arith, so.width_is)) so.readers in
    let how : Move = (next_read reader (bit_read s.run) x).how in
    let c : Cell = cell_after (cell_at s.row (length s.run.bits) reader) how in
    record {
      shape = shape_after s.row (length s.run.bits) reader c width so.shape;
      readers = omega (arith, so.readers, length-row_with_cell s.row (length s.run.bits) reader c);
      width_is = so.width_is;
      written = written-kept s.row (row_after s.row (length s.run.bits) (next_read reader (bit_read s.run) x)) v (read_keeps s.row reader s.run x there) so.written;
      undisturbed = undisturbed-on s.row v reader s.run flick there so.written so.undisturbed;
    }

read_call : (width reader : ℕ) (v : ℕ → Bool) (s : ReadState) (call : RowCall) → IsReadCall s.row call → reader_of call ≢ reader → ReadSoFar width reader v s → ReadSoFar width reader v (read_moment reader s (Other call))
read_call width reader v s call reads apart so = record {
  shape = shape_call s.row call width so.shape;
  readers = omega (arith, so.readers, length_call s.row call);
  width_is = so.width_is;
  written = written-kept s.row (row_after_call s.row call) v (call-keeps s.row call reads) so.written;
  undisturbed = undisturbed_call s.row v reader s.run call apart so.undisturbed;
}

read_so_far : (width reader : ℕ) (v : ℕ → Bool) (s : ReadState) (moments : List Moment) → ReadSoFar width reader v s → IsUndisturbedInterval reader s moments → ReadSoFar width reader v (read_interval reader s moments)
read_so_far width reader v s [] so turns = so
read_so_far width reader v s (Own flick ∷ moments) so turns = read_own width reader v (read_interval reader s moments) flick turns.0 (read_so_far width reader v s moments so turns.1)
read_so_far width reader v s (Other call ∷ moments) so turns = read_call width reader v (read_interval reader s moments) call turns.0.0 turns.0.1 (read_so_far width reader v s moments so turns.1)

new_so_far : (row : List (List Cell)) (v : ℕ → Bool) (reader width room : ℕ) → IsRow row width → IsWritten row v → reader < length row → ReadSoFar width reader v (record { row = row; run = new_read width room })
new_so_far row v reader width room shape written there = record { shape = shape; readers = there; width_is = refl; written = written; undisturbed = undisturbed-start row v reader width room }

pub undisturbed-interval : (row : List (List Cell)) (v : ℕ → Bool) (reader width room : ℕ) (moments : List Moment) → IsRow row width → IsWritten row v → reader < length row
    → let start : ReadState = record { row = row; run = new_read width room } in
    IsUndisturbedInterval reader start moments → (read_interval reader start moments).run.bits ≡ first_bits v (length (read_interval reader start moments).run.bits)
undisturbed-interval row v reader width room moments shape written there turns =
    (read_so_far width reader v (record { row = row; run = new_read width room }) moments (new_so_far row v reader width room shape written there) turns).undisturbed.so_far

pub written-interval : (row : List (List Cell)) (v : ℕ → Bool) (reader width room : ℕ) (moments : List Moment) → IsRow row width → IsWritten row v → reader < length row
    → let start : ReadState = record { row = row; run = new_read width room } in
    IsUndisturbedInterval reader start moments → IsWritten (read_interval reader start moments).row v
written-interval row v reader width room moments shape written there turns =
    (read_so_far width reader v (record { row = row; run = new_read width room }) moments (new_so_far row v reader width room shape written there) turns).written
