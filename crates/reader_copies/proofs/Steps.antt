-- The accesses of a write and of a settling, one after another.
use Rattle.std.proofs.Common.{◌≡◌, ℕ, ◌+◌, ◌*◌, ◌/◌, ◌%◌, ◌==◌, List, Bool, true, false, cond, ltb, refl, sym, ap, subst, ◌∙◌, length, arith, inl, inr, eq-eqb, Option, Some}
use Rattle.std.proofs.lemmas.Bool.{cases_eq, cases_lt, cases_order, ne_eqb, lt-ltb, le-ltb, cond-true, cond-false}
use Rattle.safe_bit.specs.Cell.{Cell, cell_after, read_answer, MayMove}
use Rattle.safe_bit.specs.{Move}
use Rattle.safe_bit.specs.declared.Move.TheVariants.{BeginWrite, EndWrite, BeginRead, EndRead, Settle}
use Rattle.reader_copies.specs.{CanMake, HasCell, IsAt, IsOpen, IsPartlySettled, IsPartlyWritten, IsWritten, Reading, Settling, Writing, cell_at, cut_values, is_open_at, next_read, next_settle, next_write, row_after, settle_after, with_cell, with_value}
use Rattle.reader_copies.proofs.Writing.{with_cell-same, with_cell-other, HasCell-before, IsAt-same, IsOpen-same}

other_at : (row : List (List Cell)) (b r : ℕ) (d : Cell) (bit reader : ℕ) (v : Bool) → (bit ≡ b → reader ≡ r → ⊥) → IsAt (cell_at row bit reader) v → IsAt (cell_at (with_cell row b r d) bit reader) v
other_at row b r d bit reader v apart at = IsAt-same _ _ v (with_cell-other row b r d bit reader apart) at

this_at : (row : List (List Cell)) (b r : ℕ) (d : Cell) (reader : ℕ) (v : Bool) → HasCell row b r → reader ≡ r → IsAt d v → IsAt (cell_at (with_cell row b r d) b reader) v
this_at row b r d reader v there e at = IsAt-same _ _ v (ap (λ k. cell_at (with_cell row b r d) b k) e ∙ with_cell-same row b r d there) at

this_open : (row : List (List Cell)) (b r : ℕ) (d : Cell) (reader : ℕ) (v : Bool) → HasCell row b r → reader ≡ r → IsOpen d v → IsOpen (cell_at (with_cell row b r d) b reader) v
this_open row b r d reader v there e at = IsOpen-same _ _ v (ap (λ k. cell_at (with_cell row b r d) b k) e ∙ with_cell-same row b r d there) at

-- the write of copy r begins
write_begins : (row : List (List Cell)) (old new : ℕ → Bool) (b m r : ℕ) (d : Cell) → m ≡ 2 * r → HasCell row b r → IsOpen d (new b) → IsPartlyWritten row old new b m → IsPartlyWritten (with_cell row b r d) old new b (m + 1)
write_begins row old new b m r d e there opens w = record {
  below = λ bit reader h lt. other_at row b r d bit reader (new bit) (λ x y. omega arith) (w.below bit reader (HasCell-before row b r d bit reader h) lt);
  done = λ reader h lt. other_at row b r d b reader (new b) (λ x y. omega arith) (w.done reader (HasCell-before row b r d b reader h) (omega arith));
  opened = λ reader h is. this_open row b r d reader (new b) there (omega arith) opens;
  rest = λ reader h le. other_at row b r d b reader (old b) (λ x y. omega arith) (w.rest reader (HasCell-before row b r d b reader h) (omega arith));
  above = λ bit reader h lt. other_at row b r d bit reader (old bit) (λ x y. omega arith) (w.above bit reader (HasCell-before row b r d bit reader h) lt);
}

-- the write of copy r ends
write_ends : (row : List (List Cell)) (old new : ℕ → Bool) (b m r : ℕ) (d : Cell) → m ≡ 2 * r + 1 → HasCell row b r → IsAt d (new b) → IsPartlyWritten row old new b m → IsPartlyWritten (with_cell row b r d) old new b (m + 1)
write_ends row old new b m r d e there closes w = record {
  below = λ bit reader h lt. other_at row b r d bit reader (new bit) (λ x y. omega arith) (w.below bit reader (HasCell-before row b r d bit reader h) lt);
  done = λ reader h lt. elim (cases_eq reader r) [
    | inl same ↦ this_at row b r d reader (new b) there same closes
    | inr apart ↦ other_at row b r d b reader (new b) (λ x y. apart y) (w.done reader (HasCell-before row b r d b reader h) (omega arith))
  ];
  opened = λ reader h is. absurd (omega arith);
  rest = λ reader h le. other_at row b r d b reader (old b) (λ x y. omega arith) (w.rest reader (HasCell-before row b r d b reader h) (omega arith));
  above = λ bit reader h lt. other_at row b r d bit reader (old bit) (λ x y. omega arith) (w.above bit reader (HasCell-before row b r d bit reader h) lt);
}

-- an access at a copy by what it is
made_as : (row : List (List Cell)) (b r : ℕ) (how how' : Move) → how' ≡ how → CanMake row b (record { reader = r; how = how }) → CanMake row b (record { reader = r; how = how' })
made_as row b r how how' e can = let P : Move → Type 0 = λ h. CanMake row b (record { reader = r; how = h }) in subst P (sym e) can

pub write_can : (row : List (List Cell)) (old new : ℕ → Bool) (b : ℕ) (run : Writing) → HasCell row b (run.made / 2) → IsPartlyWritten row old new b run.made → CanMake row b (next_write run)
write_can row old new b run there w = elim (cases_eq (run.made % 2) 0) [
  | inl even ↦ made_as row b (run.made / 2) (BeginWrite run.value) _ (cond-true (run.made % 2 == 0) (BeginWrite run.value) EndWrite (eq-eqb (run.made % 2) 0 even))
      (record { there = there; turn = (w.rest (run.made / 2) there (omega arith)).closed })
  | inr odd ↦ made_as row b (run.made / 2) EndWrite _ (cond-false (run.made % 2 == 0) (BeginWrite run.value) EndWrite (ne_eqb (run.made % 2) 0 odd))
      (record { there = there; turn = (w.opened (run.made / 2) there (omega arith)).opened })
]

after_as : (row : List (List Cell)) (old new : ℕ → Bool) (b m r : ℕ) (how how' : Move) → how' ≡ how → IsPartlyWritten (row_after row b (record { reader = r; how = how })) old new b m → IsPartlyWritten (row_after row b (record { reader = r; how = how' })) old new b m
after_as row old new b m r how how' e w = let P : Move → Type 0 = λ h. IsPartlyWritten (row_after row b (record { reader = r; how = h })) old new b m in subst P (sym e) w

pub write_on : (row : List (List Cell)) (old new : ℕ → Bool) (b : ℕ) (run : Writing) → run.value ≡ new b → HasCell row b (run.made / 2) → IsPartlyWritten row old new b run.made → IsPartlyWritten (row_after row b (next_write run)) old new b (run.made + 1)
write_on row old new b run v there w = elim (cases_eq (run.made % 2) 0) [
  | inl even ↦ after_as row old new b (run.made + 1) (run.made / 2) (BeginWrite run.value) _ (cond-true (run.made % 2 == 0) (BeginWrite run.value) EndWrite (eq-eqb (run.made % 2) 0 even))
      (write_begins row old new b run.made (run.made / 2) (cell_after (cell_at row b (run.made / 2)) (BeginWrite run.value)) (omega arith) there (record { opened = refl; value = v }) w)
  | inr odd ↦ after_as row old new b (run.made + 1) (run.made / 2) EndWrite _ (cond-false (run.made % 2 == 0) (BeginWrite run.value) EndWrite (ne_eqb (run.made % 2) 0 odd))
      (write_ends row old new b run.made (run.made / 2) (cell_after (cell_at row b (run.made / 2)) EndWrite) (omega arith) there (record { closed = refl; value = (w.opened (run.made / 2) there (omega arith)).value }) w)
]

-- in a write that was cut a copy is open exactly where the count of accesses has it open
cut_writing : (row : List (List Cell)) (old new : ℕ → Bool) (b m r : ℕ) → HasCell row b r → IsPartlyWritten row old new b m → (cell_at row b r).writing ≡ is_open_at m r
cut_writing row old new b m r there w = elim (cases_order m (2 * r + 1)) [
  | inl same ↦ (w.opened r there (sym same)).opened ∙ sym (eq-eqb m (2 * r + 1) same)
  | inr apart ↦ elim apart [
    | inl less ↦ (w.rest r there (omega arith)).closed ∙ sym (ne_eqb m (2 * r + 1) (λ e. omega arith))
    | inr more ↦ (w.done r there more).closed ∙ sym (ne_eqb m (2 * r + 1) (λ e. omega arith))
  ]
]

-- the bits below that of a write that was cut are the new ones, those above it the old ones
pub settle_starts : (row : List (List Cell)) (old new : ℕ → Bool) (b m : ℕ) (v : Bool) → IsPartlyWritten row old new b m → IsPartlySettled row (cut_values old new b) b m v 0 false
settle_starts row old new b m v w = record {
  apart = λ bit r h ne. elim (cases_lt bit b) [
    | inl less ↦ let P : Bool → Type 0 = λ x. IsAt (cell_at row bit r) x in subst P (sym (cond-true (ltb bit b) (new bit) (old bit) (lt-ltb bit b less))) (w.below bit r h less)
    | inr more ↦ let P : Bool → Type 0 = λ x. IsAt (cell_at row bit r) x in subst P (sym (cond-false (ltb bit b) (new bit) (old bit) (le-ltb bit b more))) (w.above bit r h (omega arith))
  ];
  done = λ r h lt. absurd (omega arith);
  opened = λ h e. absurd (cc);
  next = λ h e. cut_writing row old new b m 0 h w;
  rest = λ r h lt. cut_writing row old new b m r h w;
}

-- a copy is settled
settle_ends : (row : List (List Cell)) (g : ℕ → Bool) (b m : ℕ) (v : Bool) (s : ℕ) (begun : Bool) (d : Cell) → HasCell row b s → IsAt d v → IsPartlySettled row g b m v s begun → IsPartlySettled (with_cell row b s d) g b m v (s + 1) false
settle_ends row g b m v s begun d there closes w = record {
  apart = λ bit r h ne. other_at row b s d bit r (g bit) (λ x y. ne x) (w.apart bit r (HasCell-before row b s d bit r h) ne);
  done = λ r h lt. elim (cases_eq r s) [
    | inl same ↦ this_at row b s d r v there same closes
    | inr apart ↦ other_at row b s d b r v (λ x y. apart y) (w.done r (HasCell-before row b s d b r h) (omega arith))
  ];
  opened = λ h e. absurd (cc);
  next = λ h e. ap (λ (x : Cell). x.writing) (with_cell-other row b s d b (s + 1) (λ x y. omega arith)) ∙ w.rest (s + 1) (HasCell-before row b s d b (s + 1) h) (omega arith);
  rest = λ r h lt. ap (λ (x : Cell). x.writing) (with_cell-other row b s d b r (λ x y. omega arith)) ∙ w.rest r (HasCell-before row b s d b r h) (omega arith);
}

-- a write is begun to settle a copy
settle_begins : (row : List (List Cell)) (g : ℕ → Bool) (b m : ℕ) (v : Bool) (s : ℕ) (begun : Bool) (d : Cell) → HasCell row b s → IsOpen d v → IsPartlySettled row g b m v s begun → IsPartlySettled (with_cell row b s d) g b m v s true
settle_begins row g b m v s begun d there opens w = record {
  apart = λ bit r h ne. other_at row b s d bit r (g bit) (λ x y. ne x) (w.apart bit r (HasCell-before row b s d bit r h) ne);
  done = λ r h lt. other_at row b s d b r v (λ x y. omega arith) (w.done r (HasCell-before row b s d b r h) lt);
  opened = λ h e. this_open row b s d s v there refl opens;
  next = λ h e. absurd (cc);
  rest = λ r h lt. ap (λ (x : Cell). x.writing) (with_cell-other row b s d b r (λ x y. omega arith)) ∙ w.rest r (HasCell-before row b s d b r h) lt;
}

-- the effect of the next access on a settling that has not begun its copy, where the copy is open or not
abbrev NextSettled : List (List Cell) → (ℕ → Bool) → ℕ → Bool → ℕ → ℕ → Option Bool → Bool → Type 0
NextSettled row g b v m s given is_open =
    CanMake row b (record { reader = s; how = cond is_open (Settle v) (BeginWrite v) })
    × IsPartlySettled (row_after row b (record { reader = s; how = cond is_open (Settle v) (BeginWrite v) })) g b m v
    (cond {A = Settling} is_open (record { made = m; reader = s + 1; begun = false; value = Some v }) (record { made = m; reader = s; begun = true; value = Some v })).reader
    (cond {A = Settling} is_open (record { made = m; reader = s + 1; begun = false; value = Some v }) (record { made = m; reader = s; begun = true; value = Some v })).begun

settle_next : (row : List (List Cell)) (g : ℕ → Bool) (b : ℕ) (v : Bool) (m s : ℕ) (given : Option Bool) → HasCell row b s → IsPartlySettled row g b m v s false
    → (is_open : Bool) → is_open_at m s ≡ is_open
    → let t : Settling = record { made = m; reader = s; begun = false; value = given } in
    CanMake row b (next_settle t v) × IsPartlySettled (row_after row b (next_settle t v)) g b m v (settle_after t v).reader (settle_after t v).begun
settle_next row g b v m s given there w true e =
    subst (NextSettled row g b v m s given) (sym e) (
      record { there = there; turn = w.next there refl ∙ e },
      settle_ends row g b m v s false (cell_after (cell_at row b s) (Settle v)) there (record { closed = refl; value = refl }) w,
    )
settle_next row g b v m s given there w false e =
    subst (NextSettled row g b v m s given) (sym e) (
      record { there = there; turn = w.next there refl ∙ e },
      settle_begins row g b m v s false (cell_after (cell_at row b s) (BeginWrite v)) there (record { opened = refl; value = refl }) w,
    )

-- the next access of a settling may be made, and the settling has then gone on
pub settle_on : (row : List (List Cell)) (g : ℕ → Bool) (b : ℕ) (v : Bool) (m s : ℕ) (begun : Bool) (given : Option Bool) → HasCell row b s → IsPartlySettled row g b m v s begun
    → let t : Settling = record { made = m; reader = s; begun = begun; value = given } in
    CanMake row b (next_settle t v) × IsPartlySettled (row_after row b (next_settle t v)) g b m v (settle_after t v).reader (settle_after t v).begun
settle_on row g b v m s true given there w = (
  record { there = there; turn = (w.opened there refl).opened },
  settle_ends row g b m v s true (cell_after (cell_at row b s) EndWrite) there (record { closed = refl; value = (w.opened there refl).value }) w,
)
settle_on row g b v m s false given there w = settle_next row g b v m s given there w (is_open_at m s) refl

-- once all copies are settled the bit has that value, and the others keep theirs
pub settle_done : (row : List (List Cell)) (g : ℕ → Bool) (b m : ℕ) (v : Bool) (s : ℕ) → s ≡ length row → IsPartlySettled row g b m v s false → IsWritten row (with_value g b v)
settle_done row g b m v s all w = record {
  copies = λ bit r h. elim (cases_eq bit b) [
    | inl e ↦
        let P : ℕ → Type 0 = λ x. HasCell row x r → IsAt (cell_at row x r) (with_value g b v x) in
        let Q : Bool → Type 0 = λ x. IsAt (cell_at row b r) x in
        subst P (sym e) (λ there. subst Q (sym (cond-true (b == b) v (g b) (eq-eqb b b refl))) (w.done r there (omega (arith, there.reader_in)))) h
    | inr ne ↦ let Q : Bool → Type 0 = λ x. IsAt (cell_at row bit r) x in subst Q (sym (cond-false (bit == b) v (g bit) (ne_eqb bit b ne))) (w.apart bit r h ne)
  ];
}

read_turn : (c : Cell) (begun flick : Bool) → c.reading ≡ begun → MayMove c (cond begun (EndRead (read_answer c flick)) BeginRead)
read_turn c true flick turn = (turn, λ h. cond-false c.touched flick c.value h)
read_turn c false flick turn = turn

-- the next access of a read may be made
pub read_can : (row : List (List Cell)) (b reader : ℕ) (run : Reading) (flick : Bool) → HasCell row b reader → (cell_at row b reader).reading ≡ run.begun → CanMake row b (next_read reader run (read_answer (cell_at row b reader) flick))
read_can row b reader run flick there turn = record {
  there = there;
  turn = read_turn (cell_at row b reader) run.begun flick turn;
}
