-- The effect of one access on a row.
use Rattle.std.proofs.Common.{◌≡◌, ℕ, ◌+◌, ◌*◌, ◌<◌, List, [], Bool, true, false, cond, refl, sym, ap, subst, ◌∙◌, map, set, get_or, length, ltb, replicate, arith, inl, inr}
use Rattle.std.proofs.lemmas.Bool.{cases_eq, cases_lt, cond-true, cond-false, lt-ltb, le-ltb}
use Rattle.std.proofs.lemmas.List.{get_or-set_same, get_or-set_other, length-set, set_past, get_or_past, get_or-replicate, length-replicate, get_or-map, length-map}
use Rattle.safe_bit.specs.Cell.{Cell, new_cell, cell_after, without_read}
use Rattle.safe_bit.specs.{Move}
use Rattle.safe_bit.specs.declared.Move.TheVariants.{BeginWrite, EndWrite, BeginRead, EndRead, Settle}
use Rattle.reader_copies.specs.{DropsAt, HasCell, IsAt, IsOpen, IsPartlySettled, IsPartlyWritten, IsRead, IsReadCall, IsWrite, IsWritten, KeepsWrite, KeepsWrites, Made, MakesAt, Reading, RowCall, cell_at, cell_in, cut_values, new_row, next_read, row_after, row_after_call, with_cell, without_reads}

pub with_cell-same : (row : List (List Cell)) (b r : ℕ) (c : Cell) → HasCell row b r → cell_at (with_cell row b r c) b r ≡ c
with_cell-same row b r c there =
    ap (λ copies. cell_in copies b) (get_or-set_same row r (set (get_or row r []) b c) [] there.reader_in)
    ∙ get_or-set_same (get_or row r []) b c (new_cell false) there.bit_in

-- another reader's copy, or a copy of another bit
pub with_cell-other : (row : List (List Cell)) (b r : ℕ) (c : Cell) (bit reader : ℕ) → (bit ≡ b → reader ≡ r → ⊥) → cell_at (with_cell row b r c) bit reader ≡ cell_at row bit reader
with_cell-other row b r c bit reader apart = elim (cases_eq reader r) [
  | inl e ↦ elim (cases_lt r (length row)) [
    | inl inside ↦
        ap (λ k. cell_in (get_or (set row r (set (get_or row r []) b c)) k []) bit) e
        ∙ ap (λ copies. cell_in copies bit) (get_or-set_same row r (set (get_or row r []) b c) [] inside)
        ∙ get_or-set_other (get_or row r []) b bit c (new_cell false) (λ same. apart same e)
        ∙ ap (λ k. cell_in (get_or row k []) bit) (sym e)
    | inr past ↦ ap (λ xs. cell_at xs bit reader) (set_past row r (set (get_or row r []) b c) past)
  ]
  | inr other ↦ ap (λ copies. cell_in copies bit) (get_or-set_other row r reader (set (get_or row r []) b c) [] other)
]

-- the shape stays
pub length-row_with_cell : (row : List (List Cell)) (b r : ℕ) (c : Cell) → length (with_cell row b r c) ≡ length row
length-row_with_cell row b r c = length-set row r (set (get_or row r []) b c)

pub length-with_cell : (row : List (List Cell)) (b r : ℕ) (c : Cell) (reader : ℕ) → length (get_or (with_cell row b r c) reader []) ≡ length (get_or row reader [])
length-with_cell row b r c reader = elim (cases_eq reader r) [
  | inl e ↦ elim (cases_lt r (length row)) [
    | inl inside ↦
        ap (λ k. length (get_or (set row r (set (get_or row r []) b c)) k [])) e
        ∙ ap length (get_or-set_same row r (set (get_or row r []) b c) [] inside)
        ∙ length-set (get_or row r []) b c
        ∙ ap (λ k. length (get_or row k [])) (sym e)
    | inr past ↦ ap (λ xs. length (get_or xs reader [])) (set_past row r (set (get_or row r []) b c) past)
  ]
  | inr other ↦ ap length (get_or-set_other row r reader (set (get_or row r []) b c) [] other)
]

pub HasCell-before : (row : List (List Cell)) (b r : ℕ) (c : Cell) (bit reader : ℕ) → HasCell (with_cell row b r c) bit reader → HasCell row bit reader
HasCell-before row b r c bit reader there = record {
  reader_in = omega (arith, there.reader_in, length-row_with_cell row b r c);
  bit_in = omega (arith, there.bit_in, length-with_cell row b r c reader);
}

pub HasCell-after : (row : List (List Cell)) (b r : ℕ) (c : Cell) (bit reader : ℕ) → HasCell row bit reader → HasCell (with_cell row b r c) bit reader
HasCell-after row b r c bit reader there = record {
  reader_in = omega (arith, there.reader_in, length-row_with_cell row b r c);
  bit_in = omega (arith, there.bit_in, length-with_cell row b r c reader);
}

-- a copy that stays at its value
pub IsAt-same : (c d : Cell) (v : Bool) → d ≡ c → IsAt c v → IsAt d v
IsAt-same c d v e at = let P : Cell → Type 0 = λ x. IsAt x v in subst P (sym e) at

pub IsOpen-same : (c d : Cell) (v : Bool) → d ≡ c → IsOpen c v → IsOpen d v
IsOpen-same c d v e at = let P : Cell → Type 0 = λ x. IsOpen x v in subst P (sym e) at

keeps : (row : List (List Cell)) (b r : ℕ) (d : Cell) (bit reader : ℕ) → HasCell row b r → KeepsWrite (cell_at row b r) d → KeepsWrite (cell_at row bit reader) (cell_at (with_cell row b r d) bit reader)
keeps row b r d bit reader there kept = elim (cases_eq bit b) [
  | inl e ↦ elim (cases_eq reader r) [
    | inl f ↦
        let P : ℕ → Type 0 = λ x. KeepsWrite (cell_at row x reader) (cell_at (with_cell row b r d) x reader) in
        let Q : ℕ → Type 0 = λ x. KeepsWrite (cell_at row b x) (cell_at (with_cell row b r d) b x) in
        let R : Cell → Type 0 = λ x. KeepsWrite (cell_at row b r) x in
        subst P (sym e) (subst Q (sym f) (subst R (sym (with_cell-same row b r d there)) kept))
    | inr f ↦
        let R : Cell → Type 0 = λ x. KeepsWrite (cell_at row bit reader) x in
        subst R (sym (with_cell-other row b r d bit reader (λ x y. f y))) (record { value = refl; writing = refl })
  ]
  | inr f ↦
      let R : Cell → Type 0 = λ x. KeepsWrite (cell_at row bit reader) x in
      subst R (sym (with_cell-other row b r d bit reader (λ x y. f x))) (record { value = refl; writing = refl })
]

IsAt-kept : (c d : Cell) (v : Bool) → KeepsWrite c d → IsAt c v → IsAt d v
IsAt-kept c d v kept at = record { closed = kept.writing ∙ at.closed; value = kept.value ∙ at.value }

IsOpen-kept : (c d : Cell) (v : Bool) → KeepsWrite c d → IsOpen c v → IsOpen d v
IsOpen-kept c d v kept at = record { opened = kept.writing ∙ at.opened; value = kept.value ∙ at.value }

pub keeps_read : (c : Cell) (how : Move) → IsRead how → KeepsWrite c (cell_after c how)
keeps_read c (BeginWrite v) h = absurd h
keeps_read c EndWrite h = absurd h
keeps_read c BeginRead h = record { value = refl; writing = refl }
keeps_read c (EndRead v) h = record { value = refl; writing = refl }
keeps_read c (Settle v) h = absurd h

-- an access of a read changes no value and no write of the row
pub with_cell-keeps : (row : List (List Cell)) (b r : ℕ) (d : Cell) → HasCell row b r → KeepsWrite (cell_at row b r) d → KeepsWrites row (with_cell row b r d)
with_cell-keeps row b r d there kept = record {
  shape = λ bit reader h. HasCell-before row b r d bit reader h;
  each = λ bit reader h. keeps row b r d bit reader there kept;
}

pub read-keeps : (row : List (List Cell)) (bit : ℕ) (made : Made) → HasCell row bit made.reader → IsRead made.how → KeepsWrites row (row_after row bit made)
read-keeps row bit made there is = with_cell-keeps row bit made.reader (cell_after (cell_at row bit made.reader) made.how) there (keeps_read (cell_at row bit made.reader) made.how is)

-- a read that is dropped changes no value and no write
pub drop-keeps : (row : List (List Cell)) (bit reader : ℕ) → HasCell row bit reader → KeepsWrites row (with_cell row bit reader (without_read (cell_at row bit reader)))
drop-keeps row bit reader there = with_cell-keeps row bit reader (without_read (cell_at row bit reader)) there (record { value = refl; writing = refl })

length-without_reads : (row : List (List Cell)) (r reader : ℕ) → length (get_or (without_reads row r) reader []) ≡ length (get_or row reader [])
length-without_reads row r reader = elim (cases_eq reader r) [
  | inl e ↦ elim (cases_lt r (length row)) [
    | inl inside ↦
        ap (λ k. length (get_or (without_reads row r) k [])) e
        ∙ ap length (get_or-set_same row r (map without_read (get_or row r [])) [] inside)
        ∙ length-map (get_or row r []) without_read
        ∙ ap (λ k. length (get_or row k [])) (sym e)
    | inr past ↦ ap (λ xs. length (get_or xs reader [])) (set_past row r (map without_read (get_or row r [])) past)
  ]
  | inr other ↦ ap length (get_or-set_other row r reader (map without_read (get_or row r [])) [] other)
]

drops_at : (row : List (List Cell)) (r bit reader : ℕ) → HasCell row bit reader → KeepsWrite (cell_at row bit reader) (cell_at (without_reads row r) bit reader)
drops_at row r bit reader there = elim (cases_eq reader r) [
  | inl e ↦
      let Q : ℕ → Type 0 = λ k. HasCell row bit k → KeepsWrite (cell_at row bit k) (cell_at (without_reads row r) bit k) in
      let R : Cell → Type 0 = λ x. KeepsWrite (cell_at row bit r) x in
      subst Q (sym e) (λ h. subst R
      (sym (ap (λ copies. cell_in copies bit) (get_or-set_same row r (map without_read (get_or row r [])) [] h.reader_in)
      ∙ get_or-map without_read (get_or row r []) bit (new_cell false) (new_cell false) h.bit_in))
      (record { value = refl; writing = refl })) there
  | inr other ↦
      let R : Cell → Type 0 = λ x. KeepsWrite (cell_at row bit reader) x in
      subst R (sym (ap (λ copies. cell_in copies bit) (get_or-set_other row r reader (map without_read (get_or row r [])) [] other))) (record { value = refl; writing = refl })
]

pub drops-keep : (row : List (List Cell)) (reader : ℕ) → KeepsWrites row (without_reads row reader)
drops-keep row r = record {
  shape = λ bit reader h. record {
    reader_in = omega (arith, h.reader_in, length-set row r (map without_read (get_or row r [])));
    bit_in = omega (arith, h.bit_in, length-without_reads row r reader);
  };
  each = λ bit reader h. drops_at row r bit reader h;
}

-- written values, a write and a settling stay if no value and no write changes
pub written-kept : (row row' : List (List Cell)) (v : ℕ → Bool) → KeepsWrites row row' → IsWritten row v → IsWritten row' v
written-kept row row' v kept w = record {
  copies = λ bit reader h. let there : HasCell row bit reader = kept.shape bit reader h in IsAt-kept _ _ (v bit) (kept.each bit reader there) (w.copies bit reader there);
}

pub partly_written-kept : (row row' : List (List Cell)) (old new : ℕ → Bool) (k m : ℕ) → KeepsWrites row row' → IsPartlyWritten row old new k m → IsPartlyWritten row' old new k m
partly_written-kept row row' old new k m kept w = record {
  below = λ bit reader h lt. let there : HasCell row bit reader = kept.shape bit reader h in IsAt-kept _ _ (new bit) (kept.each bit reader there) (w.below bit reader there lt);
  done = λ reader h lt. let there : HasCell row k reader = kept.shape k reader h in IsAt-kept _ _ (new k) (kept.each k reader there) (w.done reader there lt);
  opened = λ reader h lt. let there : HasCell row k reader = kept.shape k reader h in IsOpen-kept _ _ (new k) (kept.each k reader there) (w.opened reader there lt);
  rest = λ reader h lt. let there : HasCell row k reader = kept.shape k reader h in IsAt-kept _ _ (old k) (kept.each k reader there) (w.rest reader there lt);
  above = λ bit reader h lt. let there : HasCell row bit reader = kept.shape bit reader h in IsAt-kept _ _ (old bit) (kept.each bit reader there) (w.above bit reader there lt);
}

pub partly_settled-kept : (row row' : List (List Cell)) (others : ℕ → Bool) (k m : ℕ) (v : Bool) (s : ℕ) (begun : Bool) → KeepsWrites row row' → IsPartlySettled row others k m v s begun → IsPartlySettled row' others k m v s begun
partly_settled-kept row row' others k m v s begun kept w = record {
  apart = λ bit reader h lt. let there : HasCell row bit reader = kept.shape bit reader h in IsAt-kept _ _ (others bit) (kept.each bit reader there) (w.apart bit reader there lt);
  done = λ reader h lt. let there : HasCell row k reader = kept.shape k reader h in IsAt-kept _ _ v (kept.each k reader there) (w.done reader there lt);
  opened = λ h lt. let there : HasCell row k s = kept.shape k s h in IsOpen-kept _ _ v (kept.each k s there) (w.opened there lt);
  next = λ h lt. let there : HasCell row k s = kept.shape k s h in (kept.each k s there).writing ∙ w.next there lt;
  rest = λ reader h lt. let there : HasCell row k reader = kept.shape k reader h in (kept.each k reader there).writing ∙ w.rest reader there lt;
}

-- a write begins over written values
pub partly_written-start : (row : List (List Cell)) (old new : ℕ → Bool) → IsWritten row old → IsPartlyWritten row old new 0 0
partly_written-start row old new w = record {
  below = λ bit reader h lt. absurd (omega arith);
  done = λ reader h lt. absurd (omega arith);
  opened = λ reader h lt. absurd (omega arith);
  rest = λ reader h lt. w.copies 0 reader h;
  above = λ bit reader h lt. w.copies bit reader h;
}

-- it goes on to the next bit once each copy has ended
pub partly_written-carry : (row : List (List Cell)) (old new : ℕ → Bool) (b m : ℕ) → m ≡ 2 * length row → IsPartlyWritten row old new b m → IsPartlyWritten row old new (b + 1) 0
partly_written-carry row old new b m all w = record {
  below = λ bit reader h lt. elim (cases_eq bit b) [
    | inl e ↦
        let P : ℕ → Type 0 = λ x. HasCell row x reader → IsAt (cell_at row x reader) (new x) in
        subst P (sym e) (λ there. w.done reader there (omega (arith, there.reader_in))) h
    | inr e ↦ w.below bit reader h (omega arith)
  ];
  done = λ reader h lt. absurd (omega arith);
  opened = λ reader h lt. absurd (omega arith);
  rest = λ reader h lt. w.above (b + 1) reader h (omega arith);
  above = λ bit reader h lt. w.above bit reader h (omega arith);
}

-- a write has written all bits once it is past the last one
pub partly_written-end : (row : List (List Cell)) (old new : ℕ → Bool) (b m : ℕ) → ((bit reader : ℕ) → HasCell row bit reader → bit < b) → IsPartlyWritten row old new b m → IsWritten row new
partly_written-end row old new b m all w = record { copies = λ bit reader h. w.below bit reader h (all bit reader h) }

keeps_reading : (c : Cell) (how : Move) → IsWrite how → (cell_after c how).reading ≡ c.reading
keeps_reading c (BeginWrite v) h = refl
keeps_reading c EndWrite h = refl
keeps_reading c BeginRead h = absurd h
keeps_reading c (EndRead v) h = absurd h
keeps_reading c (Settle v) h = refl

new_copies-cell : (width bit : ℕ) → cell_in (replicate width (new_cell false)) bit ≡ new_cell false
new_copies-cell width bit = elim (cases_lt bit width) [
  | inl inside ↦ get_or-replicate width bit (new_cell false) (new_cell false) inside
  | inr past ↦ get_or_past (replicate width (new_cell false)) bit (new_cell false) (omega (arith, length-replicate width (new_cell false)))
]

-- writes begin and end no read
pub reading-kept : (row : List (List Cell)) (b r : ℕ) (how : Move) (bit reader : ℕ) → HasCell row b r → IsWrite how → (cell_at (with_cell row b r (cell_after (cell_at row b r) how)) bit reader).reading ≡ (cell_at row bit reader).reading
reading-kept row b r how bit reader there is = elim (cases_eq bit b) [
  | inl e ↦ elim (cases_eq reader r) [
    | inl f ↦
        ap (λ k. (cell_at (with_cell row b r (cell_after (cell_at row b r) how)) k reader).reading) e
        ∙ ap (λ k. (cell_at (with_cell row b r (cell_after (cell_at row b r) how)) b k).reading) f
        ∙ ap (λ (x : Cell). x.reading) (with_cell-same row b r (cell_after (cell_at row b r) how) there)
        ∙ keeps_reading (cell_at row b r) how is
        ∙ ap (λ k. (cell_at row k r).reading) (sym e) ∙ ap (λ k. (cell_at row bit k).reading) (sym f)
    | inr f ↦ ap (λ (x : Cell). x.reading) (with_cell-other row b r (cell_after (cell_at row b r) how) bit reader (λ x y. f y))
  ]
  | inr f ↦ ap (λ (x : Cell). x.reading) (with_cell-other row b r (cell_after (cell_at row b r) how) bit reader (λ x y. f x))
]

-- an access of a read is one of a read
pub read_is : (reader : ℕ) (run : Reading) (v : Bool) → IsRead (next_read reader run v).how
read_is reader run v = elim run.begun as (λ b. IsRead (cond b (EndRead v) BeginRead)) [ true ↦ tt | false ↦ tt ]

-- a new row's copies are new
pub new_row-cell : (width readers bit reader : ℕ) → cell_at (new_row width readers) bit reader ≡ new_cell false
new_row-cell width readers bit reader = elim (cases_lt reader readers) [
  | inl inside ↦ ap (λ copies. cell_in copies bit) (get_or-replicate readers reader (replicate width (new_cell false)) [] inside) ∙ new_copies-cell width bit
  | inr past ↦ ap (λ copies. cell_in copies bit) (get_or_past (new_row width readers) reader [] (omega (arith, length-replicate readers (replicate width (new_cell false)))))
]

-- a write that was cut between two bits
pub partly_written-cut : (row : List (List Cell)) (old new : ℕ → Bool) (b : ℕ) → IsPartlyWritten row old new b 0 → IsWritten row (cut_values old new b)
partly_written-cut row old new b w = record {
  copies = λ bit reader h. elim (cases_lt bit b) [
    | inl less ↦ let P : Bool → Type 0 = λ x. IsAt (cell_at row bit reader) x in subst P (sym (cond-true (ltb bit b) (new bit) (old bit) (lt-ltb bit b less))) (w.below bit reader h less)
    | inr more ↦ let P : Bool → Type 0 = λ x. IsAt (cell_at row bit reader) x in subst P (sym (cond-false (ltb bit b) (new bit) (old bit) (le-ltb bit b more))) (elim (cases_eq bit b) [
      | inl e ↦ let Q : ℕ → Type 0 = λ x. HasCell row x reader → IsAt (cell_at row x reader) (old x) in subst Q (sym e) (λ there. w.rest reader there (omega arith)) h
      | inr ne ↦ w.above bit reader h (omega arith)
    ])
  ];
}

-- a call that only reads changes no value and no write
pub call-keeps : (row : List (List Cell)) (call : RowCall) → IsReadCall row call → KeepsWrites row (row_after_call row call)
call-keeps row (MakesAt bit made) is = read-keeps row bit made is.0 is.1
call-keeps row (DropsAt bit reader) is = drop-keeps row bit reader is
