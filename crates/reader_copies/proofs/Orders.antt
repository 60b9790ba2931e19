-- The lists of accesses, and what goes to one copy.
use Rattle.std.proofs.Common.{◌≡◌, ℕ, zero, suc, ◌+◌, ◌-◌, ◌*◌, ◌/◌, ◌%◌, ◌<◌, ◌==◌, ◌&&◌, List, [], ◌∷◌, drop, length, Bool, true, false, cond, Option, Some, refl, sym, ap, subst, ◌∙◌, arith, inl, inr, eq-eqb}
use Rattle.std.proofs.lemmas.Bool.{cases_eq, ne_eqb, cond-true, cond-false, and_from, and_left, and_right}
use Rattle.safe_bit.specs.Cell.{Cell, new_cell, cell_after, without_read, cell_of_calls, Makes, Drops}
use Rattle.safe_bit.specs.declared.Move.TheVariants.{BeginWrite, EndWrite, Settle}
use Rattle.reader_copies.specs.{DropsAt, HasCell, Made, MakesAt, RowCall, Settling, Writing, calls_at, cell_at, is_open_at, next_settle, next_write, rest_of_settling, row_of, settle_after, settles_from, with_cell, writes_from}
use Rattle.reader_copies.proofs.Writing.{with_cell-same, with_cell-other, HasCell-after}

-- access number k of a write from reader r on
abbrev write_at : ℕ → Bool → ℕ → Made
write_at r v k = record { reader = r + k / 2; how = cond (k % 2 == 0) (BeginWrite v) EndWrite }

same_made : (r r' k k' : ℕ) (v : Bool) → r + k / 2 ≡ r' + k' / 2 → k % 2 ≡ k' % 2 → write_at r v k ≡ write_at r' v k'
same_made r r' k k' v e f = ap (λ x. let m : Made = record { reader = x; how = cond (k % 2 == 0) (BeginWrite v) EndWrite } in m) e ∙ ap (λ x. let m : Made = record { reader = r' + k' / 2; how = cond (x == 0) (BeginWrite v) EndWrite } in m) f

pub drop-writes : (r n : ℕ) (v : Bool) (k : ℕ) → k < 2 * n → drop k (writes_from r n v) ≡ write_at r v k ∷ drop (suc k) (writes_from r n v)
drop-writes r zero v k h = absurd (omega arith)
drop-writes r (suc n) v zero h = ap (λ x. x ∷ record { reader = r; how = EndWrite } ∷ writes_from (r + 1) n v) (ap (λ k. let m : Made = record { reader = k; how = BeginWrite v } in m) (omega arith))
drop-writes r (suc n) v (suc zero) h = ap (λ x. x ∷ writes_from (r + 1) n v) (ap (λ k. let m : Made = record { reader = k; how = EndWrite } in m) (omega arith))
drop-writes r (suc n) v (suc (suc k)) h =
    drop-writes (r + 1) n v k (omega arith) ∙ ap (λ x. x ∷ drop (suc k) (writes_from (r + 1) n v)) (same_made (r + 1) r k (suc (suc k)) v (omega arith) (omega arith))

pub rest-write : (n : ℕ) (w : Writing) → w.made < 2 * n → drop w.made (writes_from 0 n w.value) ≡ next_write w ∷ drop (w.made + 1) (writes_from 0 n w.value)
rest-write n w h =
    let half : 0 + w.made / 2 ≡ w.made / 2 = omega arith in
    let next : suc w.made ≡ w.made + 1 = omega arith in
    drop-writes 0 n w.value w.made h
    ∙ ap (λ x. (let m : Made = record { reader = x; how = cond (w.made % 2 == 0) (BeginWrite w.value) EndWrite } in m) ∷ drop (suc w.made) (writes_from 0 n w.value)) half
    ∙ ap (λ k. next_write w ∷ drop k (writes_from 0 n w.value)) next

-- the accesses of a settling
rest_settle : (m s : ℕ) (begun : Bool) (given : Option Bool) (n : ℕ) (v : Bool) → s < n
    → let t : Settling = record { made = m; reader = s; begun = begun; value = given } in
    rest_of_settling n t v ≡ next_settle t v ∷ rest_of_settling n (settle_after t v) v
rest_settle m s true given n v h = refl
rest_settle m s false given n v h =
    let one_more : n - s ≡ suc (n - (s + 1)) = omega arith in
    ap (λ k. settles_from m s k v) one_more
    ∙ elim (is_open_at m s) as (λ x.
    cond x ((let a : Made = record { reader = s; how = Settle v } in a) ∷ settles_from m (s + 1) (n - (s + 1)) v) ((let a : Made = record { reader = s; how = BeginWrite v } in a) ∷ (let a : Made = record { reader = s; how = EndWrite } in a) ∷ settles_from m (s + 1) (n - (s + 1)) v)
    ≡ (let a : Made = record { reader = s; how = cond x (Settle v) (BeginWrite v) } in a) ∷ rest_of_settling n (cond {A = Settling} x (record { made = m; reader = s + 1; begun = false; value = Some v }) (record { made = m; reader = s; begun = true; value = Some v })) v) [ true ↦ refl | false ↦ refl ]

pub rest-settle : (n : ℕ) (t : Settling) (v : Bool) → t.reader < n → rest_of_settling n t v ≡ next_settle t v ∷ rest_of_settling n (settle_after t v) v
rest-settle n t v h = rest_settle t.made t.reader t.begun t.value n v h

pub length-writes : (r n : ℕ) (v : Bool) → length (writes_from r n v) ≡ 2 * n
length-writes r zero v = refl
length-writes r (suc n) v = omega (arith, length-writes (r + 1) n v)

-- a call goes to the copy that it names, and to no other
pub at_itself : (row : List (List Cell)) (bit reader : ℕ) (v : Bool) (calls : List RowCall) → HasCell row bit reader → cell_at row bit reader ≡ new_cell v → HasCell (row_of row calls) bit reader × (cell_at (row_of row calls) bit reader ≡ cell_of_calls v (calls_at bit reader calls))
at_itself row bit reader v [] there new = (there, new)
at_itself row bit reader v (MakesAt b made ∷ calls) there new =
    let so : HasCell (row_of row calls) bit reader × (cell_at (row_of row calls) bit reader ≡ cell_of_calls v (calls_at bit reader calls)) = at_itself row bit reader v calls there new in
    let d : Cell = cell_after (cell_at (row_of row calls) b made.reader) made.how in (
      HasCell-after (row_of row calls) b made.reader d bit reader so.0,
      elim (cases_eq bit b) [
        | inl e ↦ elim (cases_eq reader made.reader) [
          | inl f ↦
              ap (λ k. cell_at (with_cell (row_of row calls) b made.reader d) k reader) e
              ∙ ap (λ k. cell_at (with_cell (row_of row calls) b made.reader d) b k) f
              ∙ with_cell-same (row_of row calls) b made.reader d (let P : ℕ → Type 0 = λ k. HasCell (row_of row calls) k made.reader in let Q : ℕ → Type 0 = λ k. HasCell (row_of row calls) bit k in subst P e (subst Q f so.0))
              ∙ ap (λ k. cell_after (cell_at (row_of row calls) k made.reader) made.how) (sym e)
              ∙ ap (λ k. cell_after (cell_at (row_of row calls) bit k) made.how) (sym f)
              ∙ ap (λ c. cell_after c made.how) so.1
              ∙ ap (cell_of_calls v) (sym (cond-true (bit == b && reader == made.reader) (Makes made.how ∷ calls_at bit reader calls) (calls_at bit reader calls) (and_from _ _ (eq-eqb bit b e) (eq-eqb reader made.reader f))))
          | inr f ↦ with_cell-other (row_of row calls) b made.reader d bit reader (λ x y. f y) ∙ so.1
              ∙ ap (cell_of_calls v) (sym (cond-false (bit == b && reader == made.reader) (Makes made.how ∷ calls_at bit reader calls) (calls_at bit reader calls) (and_right _ _ (ne_eqb reader made.reader f))))
        ]
        | inr f ↦ with_cell-other (row_of row calls) b made.reader d bit reader (λ x y. f x) ∙ so.1
            ∙ ap (cell_of_calls v) (sym (cond-false (bit == b && reader == made.reader) (Makes made.how ∷ calls_at bit reader calls) (calls_at bit reader calls) (and_left _ _ (ne_eqb bit b f))))
      ],
    )
at_itself row bit reader v (DropsAt b r ∷ calls) there new =
    let so : HasCell (row_of row calls) bit reader × (cell_at (row_of row calls) bit reader ≡ cell_of_calls v (calls_at bit reader calls)) = at_itself row bit reader v calls there new in
    let d : Cell = without_read (cell_at (row_of row calls) b r) in (
      HasCell-after (row_of row calls) b r d bit reader so.0,
      elim (cases_eq bit b) [
        | inl e ↦ elim (cases_eq reader r) [
          | inl f ↦
              ap (λ k. cell_at (with_cell (row_of row calls) b r d) k reader) e
              ∙ ap (λ k. cell_at (with_cell (row_of row calls) b r d) b k) f
              ∙ with_cell-same (row_of row calls) b r d (let P : ℕ → Type 0 = λ k. HasCell (row_of row calls) k r in let Q : ℕ → Type 0 = λ k. HasCell (row_of row calls) bit k in subst P e (subst Q f so.0))
              ∙ ap (λ k. without_read (cell_at (row_of row calls) k r)) (sym e)
              ∙ ap (λ k. without_read (cell_at (row_of row calls) bit k)) (sym f)
              ∙ ap without_read so.1
              ∙ ap (cell_of_calls v) (sym (cond-true (bit == b && reader == r) (Drops ∷ calls_at bit reader calls) (calls_at bit reader calls) (and_from _ _ (eq-eqb bit b e) (eq-eqb reader r f))))
          | inr f ↦ with_cell-other (row_of row calls) b r d bit reader (λ x y. f y) ∙ so.1
              ∙ ap (cell_of_calls v) (sym (cond-false (bit == b && reader == r) (Drops ∷ calls_at bit reader calls) (calls_at bit reader calls) (and_right _ _ (ne_eqb reader r f))))
        ]
        | inr f ↦ with_cell-other (row_of row calls) b r d bit reader (λ x y. f x) ∙ so.1
            ∙ ap (cell_of_calls v) (sym (cond-false (bit == b && reader == r) (Drops ∷ calls_at bit reader calls) (calls_at bit reader calls) (and_left _ _ (ne_eqb bit b f))))
      ],
    )
