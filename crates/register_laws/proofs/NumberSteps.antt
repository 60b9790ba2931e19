-- What a row holds, through one access of a write, one access of a settling, and a failure.
use Rattle.std.proofs.Common.{◌≡◌, ℕ, ◌+◌, ◌*◌, ◌/◌, ◌<◌, ◌==◌, ◌||◌, Bool, true, false, cond, List, length, Option, None, Some, is_some, unwrap_or, refl, sym, ap, ◌∙◌, subst, arith, eqb-true}
use Rattle.std.proofs.lemmas.Bool.{ne_eqb}
use Rattle.model.specs.safe_bit.Cell.{Cell}
use Rattle.model.specs.safe_bit.declared.moves.Move.TheVariants.{BeginWrite, EndWrite, BeginRead, EndRead, Settle}
use Rattle.reader_copies.specs.{HasCell, IsPartlyWritten, IsWritten, KeepsWrites, Settling, Writing, cut_values, next_settle, next_write, row_after, settle_after, settled_at, with_value}
use Rattle.reader_copies.proofs.Steps.{settle_starts, write_on}
use Rattle.reader_copies.proofs.Writing.{partly_settled-kept, partly_written-carry, partly_written-cut, partly_written-end, partly_written-start, written-kept, partly_written-kept, length-row_with_cell}
use Rattle.safe_number.specs.{IsSettling, NumberWrite, new_write}
use Rattle.safe_number.specs.Runs as number
use Rattle.safe_number.proofs.IntervalSteps.{settling-end, settling-on}
use Rattle.model.specs.{Field, bit_written, write_moved}
use Rattle.laws.proofs.Writing.{stays, turns}
use Rattle.register_laws.specs.NumbersHeld.{HoldsNumber, InSettling, InWrite, Progress, Quiet, bit_of, is_field, write_progress}

-- A change that writes nothing.
pub holds-kept : (before now : List (List Cell)) (number : ℕ → Bool) (x : Progress) → KeepsWrites before now → HoldsNumber before number x → HoldsNumber now number x
holds-kept before now number Quiet k h = written-kept before now number k h
holds-kept before now number (InWrite bits w) k h = partly_written-kept before now number (bit_of bits) w.bit (bit_written bits w).made k h
holds-kept before now number (InSettling bit t) k h =
    (record { partly = λ v is. partly_settled-kept before now number bit t.made v t.reader t.begun k (h.0.partly v is) }, h.1)

-- NO WRITE, OR ONE OF WHICH NO ACCESS IS MADE

abbrev pub Fresh : Progress → Type 0
Fresh Quiet = Unit {0}
Fresh (InWrite bits w) = (width : ℕ) × (w ≡ new_write width)
Fresh (InSettling bit t) = ⊥

pub fresh-holds : (row : List (List Cell)) (number : ℕ → Bool) (x : Progress) → Fresh x → IsWritten row number → HoldsNumber row number x
fresh-holds row number Quiet f h = h
fresh-holds row number (InWrite bits w) f h =
    subst (λ (y : NumberWrite). IsPartlyWritten row number (bit_of bits) y.bit (bit_written bits y).made) (sym f.1) (partly_written-start row number (bit_of bits) h)
fresh-holds row number (InSettling bit t) f h = absurd f

pub write-fresh : (f g : Field) (bits : List Bool) (width : ℕ) → Fresh (write_progress f (Some (record { field = g; bits = bits; run = new_write width })))
write-fresh f g bits width = go (is_field g f)
  where
    go : (b : Bool) → Fresh (cond b (InWrite bits (new_write width)) Quiet)
    go true = (width, refl)
    go false = tt

-- AN ACCESS OF A WRITE

-- the write has an access to make
pub record Goes (n : ℕ) (bits : List Bool) (w : NumberWrite) : Type 0 where
  pub below : w.bit < w.width
  pub made : (bit_written bits w).made < 2 * n
  pub value : (bit_written bits w).value ≡ bit_of bits w.bit

ends : ℕ → List Bool → NumberWrite → Bool
ends n bits w = (write_moved n bits w).bit == w.width

pub write-step : (row : List (List Cell)) (old : ℕ → Bool) (n : ℕ) (bits : List Bool) (w : NumberWrite) → length row ≡ n → HasCell row w.bit ((bit_written bits w).made / 2) → Goes n bits w →
    IsPartlyWritten row old (bit_of bits) w.bit (bit_written bits w).made →
    IsPartlyWritten (row_after row w.bit (next_write (bit_written bits w))) old (bit_of bits) (write_moved n bits w).bit (bit_written bits (write_moved n bits w)).made
write-step row old n bits w long there goes h = go (run.made + 1 == 2 * n) refl
  where
    run : Writing
    run = bit_written bits w

    now : List (List Cell)
    now = row_after row w.bit (next_write run)

    on : IsPartlyWritten now old (bit_of bits) w.bit (run.made + 1)
    on = write_on row old (bit_of bits) w.bit run goes.value there h

    At : NumberWrite → Type 0
    At y = IsPartlyWritten now old (bit_of bits) y.bit (bit_written bits y).made

    go : (b : Bool) → (run.made + 1 == 2 * n) ≡ b → At (write_moved n bits w)
    go false is = subst At (sym (stays n bits w is)) on
    go true is =
        let all : run.made + 1 ≡ 2 * n = eqb-true (run.made + 1) (2 * n) is in
        let same : length now ≡ length row = length-row_with_cell row w.bit _ _ in
        subst At (sym (turns n bits w is)) (partly_written-carry now old (bit_of bits) w.bit (run.made + 1) (omega (arith, all, same, long)) on)

-- the progress after it: the write ends, or continues
pub write-then : (row : List (List Cell)) (old : ℕ → Bool) (n : ℕ) (bits : List Bool) (w : NumberWrite) (x : Progress) → ((bit reader : ℕ) → HasCell row bit reader → bit < w.width) →
    IsPartlyWritten row old (bit_of bits) (write_moved n bits w).bit (bit_written bits (write_moved n bits w)).made →
    (((write_moved n bits w).bit == w.width) ≡ true → Fresh x) → (((write_moved n bits w).bit == w.width) ≡ false → x ≡ InWrite bits (write_moved n bits w)) →
    HoldsNumber row (cond ((write_moved n bits w).bit == w.width) (bit_of bits) old) x
write-then row old n bits w x inside h over on = go ((write_moved n bits w).bit == w.width) refl
  where
    go : (b : Bool) → ((write_moved n bits w).bit == w.width) ≡ b → HoldsNumber row (cond b (bit_of bits) old) x
    go true is =
        let all : (write_moved n bits w).bit ≡ w.width = eqb-true (write_moved n bits w).bit w.width is in
        fresh-holds row (bit_of bits) x (over is) (partly_written-end row old (bit_of bits) (write_moved n bits w).bit _ (λ bit reader has. omega (arith, all, inside bit reader has)) h)
    go false is = subst (HoldsNumber row old) (sym (on is)) h

-- AN ACCESS OF A SETTLING

pub settle-then : (row : List (List Cell)) (others : ℕ → Bool) (n b : ℕ) (t : Settling) (flick : Bool) (x : Progress) → length row ≡ n → HasCell row b t.reader → IsSettling row others b t →
    (((settle_after t (settled_at t flick)).reader == n) ≡ true → Fresh x) → (((settle_after t (settled_at t flick)).reader == n) ≡ false → x ≡ InSettling b (settle_after t (settled_at t flick))) →
    HoldsNumber (row_after row b (next_settle t (settled_at t flick))) (cond ((settle_after t (settled_at t flick)).reader == n) (with_value others b (settled_at t flick)) others) x
settle-then row others n b t flick x long there h over on = go (u.reader == n) refl
  where
    v : Bool
    v = settled_at t flick

    u : Settling
    u = settle_after t v

    now : List (List Cell)
    now = row_after row b (next_settle t v)

    next : IsSettling now others b u
    next = settling-on row others b t flick there h

    chosen : (k : Bool) → (let y : Settling = cond k (record { made = t.made; reader = t.reader + 1; begun = false; value = Some v }) (record { made = t.made; reader = t.reader; begun = true; value = Some v }) in y.value) ≡ Some v
    chosen true = refl
    chosen false = refl

    its : u.value ≡ Some v
    its = chosen _

    go : (k : Bool) → (u.reader == n) ≡ k → HoldsNumber now (cond k (with_value others b v) others) x
    go true is =
        let all : u.reader ≡ n = eqb-true u.reader n is in
        let same : length now ≡ length row = length-row_with_cell row b _ _ in
        fresh-holds now (with_value others b v) x (over is) (settling-end now others b u v next (ap (λ o. unwrap_or o v) its) (omega (arith, all, same, long)))
    go false is = subst (HoldsNumber now others) (sym (on is)) (next, λ begun. ap is_some its)

-- the value that its access writes is the one that it settles at
pub value-same : (value : Option Bool) (begun opened flick : Bool) → (begun ≡ true → is_some value ≡ true) →
    unwrap_or value (elim (cond begun EndWrite (cond opened (Settle (unwrap_or value flick)) (BeginWrite (unwrap_or value flick)))) as (λ _. Bool) [ BeginWrite v ↦ v | Settle v ↦ v | EndWrite ↦ false | BeginRead ↦ false | EndRead v ↦ false ])
    ≡ unwrap_or value flick
value-same (Some u) begun opened flick has = refl
value-same None true opened flick has = absurd (let f : false ≡ true = has refl in cc)
value-same None false true flick has = refl
value-same None false false flick has = refl

-- A FAILURE DURING A WRITE

-- no bit is torn
pub cut-between : (row : List (List Cell)) (old : ℕ → Bool) (bits : List Bool) (w : NumberWrite) → w.run ≡ None → IsPartlyWritten row old (bit_of bits) w.bit (bit_written bits w).made →
    IsWritten row (cut_values old (bit_of bits) w.bit)
cut-between row old bits w none h =
    partly_written-cut row old (bit_of bits) w.bit
    (subst (IsPartlyWritten row old (bit_of bits) w.bit) (ap (λ (o : Option Writing). let y : Writing = unwrap_or o (record { value = bit_of bits w.bit; made = 0; ended = false }) in y.made) none) h)

-- a bit is torn
abbrev pub torn_after : ℕ → Settling
torn_after made = record { made = made; reader = 0; begun = false; value = None }

pub cut-inside : (row : List (List Cell)) (old : ℕ → Bool) (bits : List Bool) (w : NumberWrite) (run : Writing) → w.run ≡ Some run → IsPartlyWritten row old (bit_of bits) w.bit (bit_written bits w).made →
    HoldsNumber row (cut_values old (bit_of bits) w.bit) (InSettling w.bit (torn_after run.made))
cut-inside row old bits w run some h =
    let made : (bit_written bits w).made ≡ run.made = ap (λ (o : Option Writing). let y : Writing = unwrap_or o (record { value = bit_of bits w.bit; made = 0; ended = false }) in y.made) some in
    (record { partly = λ v is. settle_starts row old (bit_of bits) w.bit run.made v (subst (IsPartlyWritten row old (bit_of bits) w.bit) made h) }, λ begun. absurd (let f : false ≡ true = begun in cc))

pub torn-none : (w : NumberWrite) → w.run ≡ None → number.torn_bit w ≡ None
torn-none w none = ap (number.torn_run w.bit) none

pub torn-some : (w : NumberWrite) (run : Writing) → w.run ≡ Some run → 0 < run.made → run.ended ≡ false → number.torn_bit w ≡ Some (w.bit, torn_after run.made)
torn-some w run some made going =
    ap (number.torn_run w.bit) some
    ∙ ap (number.torn_with w.bit)
    (ap (λ b. cond (b || run.ended) None (Some (torn_after run.made))) (ne_eqb run.made 0 (omega (arith, made)))
    ∙ ap (λ b. cond (false || b) None (Some (torn_after run.made))) going)
