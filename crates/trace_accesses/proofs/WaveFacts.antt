-- From the first entry on, the cells that were written have waves.
use Rattle.std.proofs.Common.{◌≡◌, ℕ, nat_le, Bool, true, false, ◌&&◌, ◌||◌, cond, List, [], ◌∷◌, ◌++◌, Option, None, Some, is_some, length, refl, sym, ap, ◌∙◌, subst, inl, inr, true≢false, arith}
use Rattle.std.proofs.lemmas.Bool.{cases_Bool}
use Rattle.std.proofs.lemmas.Bool.Decides.{nat_tests}
use Rattle.trace.specs.{Cell, CellAccess, CellMove, TracePast, alters, writes}
use Rattle.trace.specs.declared.accesses.CellMove.TheVariants.{Write, End, Read, Value, Set, Get, Swap, Add, Cas}
use Rattle.trace_memory.specs.{move_on, moves_on, open_write, same_cell, with_move}
use Rattle.trace_memory.proofs.CellPlaces.{same_cell-eq}
use Rattle.trace_accesses.specs.{row_in, rows_after, rows_with, waves_after, waves_since, with_last, written_rows}
use Rattle.trace_accesses.proofs.RowFacts.{last-other, last-same}

-- A cell whose write is open was written.

row-given : (rows : List Cell) (c : Cell) → is_some (row_in (rows_with c rows) c) ≡ true
row-given rows c = by (row_in rows c) refl
  where
    by : (o : Option ℕ) → row_in rows c ≡ o → is_some (row_in (with_last o c rows) c) ≡ true
    by (Some row) is = ap is_some is
    by None is = ap is_some (last-same rows c is)

row-kept : (rows : List Cell) (d c : Cell) → is_some (row_in rows c) ≡ true → is_some (row_in (rows_with d rows) c) ≡ true
row-kept rows d c has = by (row_in rows d) refl
  where
    by : (o : Option ℕ) → row_in rows d ≡ o → is_some (row_in (with_last o d rows) c) ≡ true
    by (Some row) is = has
    by None is = elim (cases_Bool (same_cell d c)) [
      | inl same ↦ ap is_some (ap (row_in (rows ++ d ∷ [])) (sym (same_cell-eq d c same)) ∙ last-same rows d is)
      | inr other ↦ ap is_some (last-other rows d c other) ∙ has
    ]

open-with : (rows : List Cell) (c : Cell) (moves : List CellMove) (a : CellAccess) → (is_some (open_write moves) ≡ true → is_some (row_in rows c) ≡ true) → (t : Bool) → same_cell a.cell c ≡ t →
    is_some (open_write (with_move (cond t (Some a.how) None) moves)) ≡ true → is_some (row_in (rows_after (Some a) rows) c) ≡ true
open-with rows c moves a rest true same open_now = made a.how open_now
  where
    given : is_some (row_in (rows_with a.cell rows) c) ≡ true
    given = subst (λ (d : Cell). is_some (row_in (rows_with a.cell rows) d) ≡ true) (same_cell-eq a.cell c same) (row-given rows a.cell)

    made : (how : CellMove) → is_some (open_write (how ∷ moves)) ≡ true → is_some (row_in (cond (writes how) (rows_with a.cell rows) rows) c) ≡ true
    made (Write v) h = given
    made End h = absurd (true≢false (sym h))
    made Read h = rest h
    made (Value v) h = rest h
    made (Set v) h = given
    made (Get v) h = rest h
    made (Swap new gives) h = given
    made (Add addend gives) h = given
    made (Cas expected new gives) h = given
open-with rows c moves a rest false other open_now = by (writes a.how)
  where
    by : (w : Bool) → is_some (row_in (cond w (rows_with a.cell rows) rows) c) ≡ true
    by true = row-kept rows a.cell c (rest open_now)
    by false = rest open_now

open-row : (c : Cell) (past : TracePast) → is_some (open_write (moves_on c past)) ≡ true → is_some (row_in (written_rows past) c) ≡ true
open-row c [] h = absurd (true≢false (sym h))
open-row c (e ∷ past) h = by e.access (open-row c past) h
  where
    by : (o : Option CellAccess) → (is_some (open_write (moves_on c past)) ≡ true → is_some (row_in (written_rows past) c) ≡ true) →
        is_some (open_write (with_move (move_on c o) (moves_on c past))) ≡ true → is_some (row_in (rows_after o (written_rows past)) c) ≡ true
    by None rest h = rest h
    by (Some a) rest h = open-with (written_rows past) c (moves_on c past) a rest (same_cell a.cell c) refl h

-- Where all entries count, an access gives a row to the cells that it adds to those written.

same-either : (b : Bool) (rows : List Cell) → cond b rows rows ≡ rows
same-either true rows = refl
same-either false rows = refl

nothing-counts : (b t : Bool) → (t && (false || (b && false))) ≡ false
nothing-counts true true = refl
nothing-counts false true = refl
nothing-counts b false = refl

waves-by : (rows : List Cell) (c : Cell) (o : Option ℕ) → row_in rows c ≡ o → (w b t open_now : Bool) → t ≡ true → (open_now ≡ true → is_some (row_in rows c) ≡ true) →
    cond (t && (w || (b && open_now))) (with_last o c rows) rows ≡ cond w (with_last o c rows) rows
waves-by rows c o is true b t open_now all has = λ i. cond (all i && true) (with_last o c rows) rows
waves-by rows c (Some row) is false b t open_now all has = same-either (t && (false || (b && open_now))) rows
waves-by rows c None is false b t false all has = ap (λ x. cond x (rows ++ c ∷ []) rows) (nothing-counts b t)
waves-by rows c None is false b t true all has = absurd (true≢false (sym (has refl) ∙ ap is_some is))

from-zero : (number : ℕ) → nat_le 0 number ≡ true
from-zero number = grind (arith, nat_tests)

pub waves-written : (past : TracePast) → waves_since 0 past ≡ written_rows past
waves-written [] = refl
waves-written (e ∷ past) = by e.access (waves-written past)
  where
    by : (o : Option CellAccess) → waves_since 0 past ≡ written_rows past → waves_after 0 past o (waves_since 0 past) ≡ rows_after o (written_rows past)
    by None same = same
    by (Some a) same =
        ap (λ (rows : List Cell). waves_after 0 past (Some a) rows) same
        ∙ waves-by (written_rows past) a.cell (row_in (written_rows past) a.cell) refl (writes a.how) (alters a.how) (nat_le 0 (length past)) (is_some (open_write (moves_on a.cell past))) (from-zero (length past)) (open-row a.cell past)
