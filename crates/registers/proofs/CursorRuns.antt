-- The cursor of a part advances as the register access of its script does.
use Rattle.std.proofs.Common.{◌≡◌, ℕ, ◌+◌, ◌*◌, ◌<◌, ◌==◌, ◌&&◌, Bool, true, false, cond, not, List, [], ◌∷◌, ◌++◌, get_or, length, None, Some, is_none, refl, sym, ap, ◌∙◌, subst, arith, eqb-true, inl, inr, length-append}
use Rattle.std.proofs.lemmas.Bool.{cases_eq, eq-eqb, eqb-false, ne_eqb}
use Rattle.plain_store.specs.{Setup}
use Rattle.reader_copies.specs.Runs as copies
use Rattle.model.specs.{Call, Field, Reading, Run, Writing, access_at, access_of, bits_with, is_last, next_written, run_after, value_of, width, write_moved}
use Rattle.model.specs.Parts.{Part, Raises, Asks, TakesTicket, Lowers, Refuses, Waits, AsksCommit, AsksStamp, AsksImage, WritesImage, WritesStamp, WritesCommit, Clears, Over, is_read, last_marks, part_after, read_at, written_at}
use Rattle.model.specs.Places as places
use Rattle.safe_number.specs.{NumberWrite}
use Rattle.registers.specs.{CursorState, IsAtPart, IsDone, ReadsAt, WritesAt, after_by, bit_begun, ends_bit, is_fresh, is_over, is_settling, move_by, moved, next_access, read_after, read_move, run_at, run_by, write_after, write_kept, write_move}
use Rattle.registers.proofs.Kept.{next-kept, write-kept}
use Rattle.registers.proofs.Steps.{copy_inside}

-- A READ

read-next : (c : Call) (part : Part) (cur : CursorState) → ReadsAt c.setup c.process (read_at c part) cur → access_at c part (Reading cur.bits cur.begun) ≡ next_access cur false
read-next c part cur at =
    let reader : cur.reader + cur.copy ≡ c.process = omega (arith, at.reader, at.copy) in
    let bit : cur.bit ≡ length cur.bits = sym at.bits in
    let shown : next_access cur false ≡ access_at c part (Reading cur.bits cur.begun) = λ i. record { owner = (at.at i).owner; field = (at.at i).field; bit = bit i; reader = reader i; how = move_by (at.run i) cur false } in
    sym shown

pub read-moved : (s : Setup) (p : ℕ) (register : ℕ × Field) (cur : CursorState) (v : Bool) → ReadsAt s p register cur → moved cur v ≡ read_after cur (value_of (read_move cur.begun v))
read-moved s p register cur v at = λ i. after_by (at.run i) cur (move_by (at.run i) cur v)

read-run : (bits : List Bool) (begun v : Bool) →
    (let run : Run = Reading (cond begun (bits ++ v ∷ []) bits) (cond begun false true) in run) ≡ Reading (cond begun (bits ++ value_of (read_move begun v) ∷ []) bits) (not begun)
read-run bits true v = refl
read-run bits false v = refl

read-bits : (bits : List Bool) (begun v : Bool) → cond begun (bits ++ v ∷ []) bits ≡ cond begun (bits ++ value_of (read_move begun v) ∷ []) bits
read-bits bits true v = refl
read-bits bits false v = refl

read-last : (n bit w : ℕ) (begun : Bool) → n ≡ bit → bit < w → (begun && (n + 1 == w)) ≡ (cond begun (bit + 1) bit == w)
read-last n bit w true same going = ap (λ k. k + 1 == w) same
read-last n bit w false same going = sym (ne_eqb bit w (omega arith))

read-more : (bits : List Bool) (bit : ℕ) (begun u : Bool) → length bits ≡ bit → length (cond begun (bits ++ u ∷ []) bits) ≡ cond begun (bit + 1) bit
read-more bits bit true u same = omega (arith, length-append bits (u ∷ []), same)
read-more bits bit false u same = same

-- A WRITE

pub write-next : (s : Setup) (p : ℕ) (written : Field × List Bool) (cur : CursorState) → WritesAt s p written cur → access_of p written.0 (next_written written.1 (write_kept cur)) ≡ next_access cur false
write-next s p written cur at =
    let reader : cur.reader + cur.copy ≡ cur.copy = omega (arith, at.reader) in
    let shown : next_access cur false ≡ access_of p written.0 (cur.bit, record { reader = cur.copy; how = write_move cur }) = λ i. record { owner = (at.at i).owner; field = (at.at i).field; bit = cur.bit; reader = reader i; how = move_by (at.run i) cur false } in
    ap (λ bits. access_of p written.0 (next_written bits (write_kept cur))) (sym at.bits)
    ∙ ap (access_of p written.0) (next-kept cur)
    ∙ sym shown

pub write-moved : (s : Setup) (p : ℕ) (written : Field × List Bool) (cur : CursorState) (v : Bool) → WritesAt s p written cur → moved cur v ≡ write_after cur
write-moved s p written cur v at = λ i. after_by (at.run i) cur (move_by (at.run i) cur v)

pub write-step : (s : Setup) (p : ℕ) (written : Field × List Bool) (cur : CursorState) → WritesAt s p written cur → write_moved s.processes written.1 (write_kept cur) ≡ write_kept (write_after cur)
write-step s p written cur at =
    ap (λ n. write_moved n written.1 (write_kept cur)) (sym at.copies)
    ∙ ap (λ bits. write_moved cur.copies bits (write_kept cur)) (sym at.bits)
    ∙ write-kept cur at.copy

-- the result of a write does not depend on the values that were read
same-next : (c : Call) (part : Part) (a b : List Bool) → is_read part ≡ false → (part_after c part a ≡ part_after c part b) × (last_marks c part a ≡ last_marks c part b)
same-next c Raises a b writes = (refl, refl)
same-next c (Asks j js ts) a b writes = absurd (cc)
same-next c (TakesTicket t) a b writes = (refl, refl)
same-next c (Lowers t) a b writes = (refl, refl)
same-next c (Refuses full) a b writes = (refl, refl)
same-next c (Waits t w ws) a b writes = absurd (cc)
same-next c (AsksCommit k ks vs) a b writes = absurd (cc)
same-next c (AsksStamp k ks vs commit) a b writes = absurd (cc)
same-next c (AsksImage vs) a b writes = absurd (cc)
same-next c (WritesImage vs st) a b writes = (refl, refl)
same-next c (WritesStamp vs st) a b writes = (refl, refl)
same-next c (WritesCommit vs st) a b writes = (refl, refl)
same-next c (Clears answer) a b writes = (refl, refl)
same-next c Over a b writes = (refl, refl)

pub same-after : (c : Call) (part : Part) (a b : List Bool) → is_read part ≡ false → part_after c part a ≡ part_after c part b
same-after c part a b writes = (same-next c part a b writes).0

pub same-marks : (c : Call) (part : Part) (a b : List Bool) → is_read part ≡ false → last_marks c part a ≡ last_marks c part b
same-marks c part a b writes = (same-next c part a b writes).1

-- WHETHER IT HAS MADE NO ACCESS

none-if : (b : Bool) (w : copies.Writing) → is_none (cond b None (Some w)) ≡ b
none-if true w = refl
none-if false w = refl

none-of : (made : ℕ) (value : Bool) → is_none (bit_begun made value) ≡ (made == 0)
none-of made value = none-if (made == 0) (record { value = value; made = made; ended = false })

and-false : (a b : Bool) → (a && b && false && true) ≡ false
and-false true true = refl
and-false true false = refl
and-false false b = refl

and-one : (a b : Bool) → (a && b && true && true) ≡ (a && b)
and-one true true = refl
and-one true false = refl
and-one false b = refl

fresh-read : (n bit copy : ℕ) (begun : Bool) → n ≡ bit → copy ≡ 0 → cond begun false (n == 0) ≡ ((bit == 0) && (copy == 0) && not begun && not false)
fresh-read n bit copy true same first = sym (and-false (bit == 0) (copy == 0))
fresh-read n bit copy false same first =
    ap (λ k. k == 0) same ∙ sym (and-true (bit == 0)) ∙ ap (λ b. (bit == 0) && b) (sym (eq-eqb copy 0 first)) ∙ sym (and-one (bit == 0) (copy == 0))
  where
    and-true : (a : Bool) → (a && true) ≡ a
    and-true true = refl
    and-true false = refl

pub fresh-write : (bit copy : ℕ) (begun value : Bool) → ((bit == 0) && is_none (bit_begun (2 * copy + cond begun 1 0) value)) ≡ ((bit == 0) && (copy == 0) && not begun && not false)
fresh-write bit copy true value =
    ap (λ b. (bit == 0) && b) (none-of (2 * copy + 1) value ∙ ne_eqb (2 * copy + 1) 0 (omega arith)) ∙ and-none (bit == 0) ∙ sym (and-false (bit == 0) (copy == 0))
  where
    and-none : (a : Bool) → (a && false) ≡ false
    and-none true = refl
    and-none false = refl
fresh-write bit copy false value = ap (λ b. (bit == 0) && b) (none-of (2 * copy + 0) value ∙ twice) ∙ sym (and-one (bit == 0) (copy == 0))
  where
    twice : (2 * copy + 0 == 0) ≡ (copy == 0)
    twice = elim (cases_eq copy 0) [
      | inl none ↦ eq-eqb (2 * copy + 0) 0 (omega arith) ∙ sym (eq-eqb copy 0 none)
      | inr some ↦ ne_eqb (2 * copy + 0) 0 (omega arith) ∙ sym (ne_eqb copy 0 some)
    ]

-- the first access is not the last one
not-fresh : (bit w : ℕ) (begun a b d : Bool) → bit < w → (cond begun (bit + 1) bit == w) ≡ true → (a && b && not begun && d) ≡ false
not-fresh bit w true a b d going over = by a b
  where
    by : (a b : Bool) → (a && b && false && d) ≡ false
    by true true = refl
    by true false = refl
    by false b = refl
not-fresh bit w false a b d going over = absurd (let same : bit ≡ w = eqb-true bit w over in omega arith)

not-fresh_write : (bit w : ℕ) (begun last a b d : Bool) → bit < w → (cond (begun && last) (bit + 1) bit == w) ≡ true → (a && b && not begun && d) ≡ false
not-fresh_write bit w true last a b d going over = by a b
  where
    by : (a b : Bool) → (a && b && false && d) ≡ false
    by true true = refl
    by true false = refl
    by false b = refl
not-fresh_write bit w false last a b d going over = absurd (let same : bit ≡ w = eqb-true bit w over in omega arith)

-- BOTH

-- the next access of a part's cursor, and its result
pub record Moves (c : Call) (part : Part) (cur : CursorState) (v : Bool) : Type 0 where
  pub access : access_at c part (run_at cur) ≡ next_access cur false
  pub fresh : places.is_fresh (run_at cur) ≡ is_fresh cur
  pub last : is_last c part (run_at cur) ≡ is_over (moved cur v)
  pub run : run_after c part (run_at cur) v ≡ run_at (moved cur v)
  pub next : part_after c part (bits_with (run_at cur) v) ≡ part_after c part (moved cur v).bits
  pub marks : last_marks c part (bits_with (run_at cur) v) ≡ last_marks c part (moved cur v).bits
  pub stays : is_over (moved cur v) ≡ false → IsAtPart c part (moved cur v)
  pub done : is_over (moved cur v) ≡ true → IsDone c part (moved cur v)
  pub begins : is_over (moved cur v) ≡ true → is_fresh cur ≡ false

at-read : (c : Call) (part : Part) (cur : CursorState) → is_read part ≡ true → ReadsAt c.setup c.process (read_at c part) cur → IsAtPart c part cur
at-read c part cur reads at =
    let P : Bool → Type 0 = λ b. elim b as (λ _. Type 0) [ true ↦ ReadsAt c.setup c.process (read_at c part) cur | false ↦ WritesAt c.setup c.process (written_at c part) cur ] in
    subst P (sym reads) at

at-write : (c : Call) (part : Part) (cur : CursorState) → is_read part ≡ false → WritesAt c.setup c.process (written_at c part) cur → IsAtPart c part cur
at-write c part cur writes at =
    let P : Bool → Type 0 = λ b. elim b as (λ _. Type 0) [ true ↦ ReadsAt c.setup c.process (read_at c part) cur | false ↦ WritesAt c.setup c.process (written_at c part) cur ] in
    subst P (sym writes) at

read-stays : (s : Setup) (p : ℕ) (register : ℕ × Field) (cur : CursorState) (u : Bool) → ReadsAt s p register cur → is_over (read_after cur u) ≡ false → ReadsAt s p register (read_after cur u)
read-stays s p register cur u at more = record {
  run = at.run;
  at = at.at;
  reader = at.reader;
  copies = at.copies;
  wide = at.wide;
  copy = at.copy;
  bits = read-more cur.bits cur.bit cur.begun u at.bits;
  going = below-width cur.bit cur.width cur.begun at.going more;
}
  where
    below-width : (bit w : ℕ) (begun : Bool) → bit < w → (cond begun (bit + 1) bit == w) ≡ false → cond begun (bit + 1) bit < w
    below-width bit w true going more = let other : bit + 1 ≡ w → ⊥ = eqb-false (bit + 1) w more in omega arith
    below-width bit w false going more = going

pub write-stays : (s : Setup) (p : ℕ) (written : Field × List Bool) (cur : CursorState) → WritesAt s p written cur → is_over (write_after cur) ≡ false → WritesAt s p written (write_after cur)
write-stays s p written cur at more = record {
  run = at.run;
  at = at.at;
  reader = at.reader;
  copies = at.copies;
  wide = at.wide;
  bits = at.bits;
  copy = copy_inside cur.copies cur.copy cur.begun at.copy;
  going = below-width cur.bit cur.width (ends_bit cur) at.going more;
}
  where
    below-width : (bit w : ℕ) (ends : Bool) → bit < w → (cond ends (bit + 1) bit == w) ≡ false → cond ends (bit + 1) bit < w
    below-width bit w true going more = let other : bit + 1 ≡ w → ⊥ = eqb-false (bit + 1) w more in omega arith
    below-width bit w false going more = going

reads-move : (c : Call) (part : Part) (cur : CursorState) (v : Bool) → is_read part ≡ true → ReadsAt c.setup c.process (read_at c part) cur → Moves c part cur v
reads-move c part cur v reads at =
    let u : Bool = value_of (read_move cur.begun v) in
    let goes : moved cur v ≡ read_after cur u = read-moved c.setup c.process (read_at c part) cur v at in
    let w : ℕ = width c.setup (read_at c part).1 in
    let inside : cur.bit < w = omega (arith, at.going, at.wide) in
    record {
      access = ap (λ r. access_at c part (run_by r cur)) at.run ∙ read-next c part cur at;
      fresh =
          ap (λ r. places.is_fresh (run_by r cur)) at.run ∙ fresh-read (length cur.bits) cur.bit cur.copy cur.begun at.bits at.copy
          ∙ sym (ap (λ r. (cur.bit == 0) && (cur.copy == 0) && not cur.begun && not (is_settling r)) at.run);
      last =
          ap (λ r. is_last c part (run_by r cur)) at.run ∙ read-last (length cur.bits) cur.bit w cur.begun at.bits inside
          ∙ ap (λ k. cond cur.begun (cur.bit + 1) cur.bit == k) (sym at.wide) ∙ sym (ap is_over goes);
      run =
          ap (λ r. run_after c part (run_by r cur) v) at.run ∙ read-run cur.bits cur.begun v
          ∙ sym (ap (λ r. run_by r (read_after cur u)) at.run) ∙ sym (ap run_at goes);
      next = ap (λ r. part_after c part (bits_with (run_by r cur) v)) at.run ∙ ap (part_after c part) (read-bits cur.bits cur.begun v) ∙ sym (ap (λ (n : CursorState). part_after c part n.bits) goes);
      marks = ap (λ r. last_marks c part (bits_with (run_by r cur) v)) at.run ∙ ap (last_marks c part) (read-bits cur.bits cur.begun v) ∙ sym (ap (λ (n : CursorState). last_marks c part n.bits) goes);
      stays = λ more. subst (IsAtPart c part) (sym goes) (at-read c part (read_after cur u) reads (read-stays c.setup c.process (read_at c part) cur u at (sym (ap is_over goes) ∙ more)));
      done = λ over. subst (IsDone c part) (sym goes) (record {
        reads = λ _. (at.run, at.wide, read-more cur.bits cur.bit cur.begun u at.bits ∙ eqb-true (read_after cur u).bit cur.width (sym (ap is_over goes) ∙ over));
        writes = λ writes. absurd (cc);
      });
      begins = λ over. not-fresh cur.bit cur.width cur.begun (cur.bit == 0) (cur.copy == 0) (not (is_settling cur.run)) at.going (sym (ap is_over goes) ∙ over);
    }

writes-move : (c : Call) (part : Part) (cur : CursorState) (v : Bool) → is_read part ≡ false → WritesAt c.setup c.process (written_at c part) cur → Moves c part cur v
writes-move c part cur v writes at =
    let goes : moved cur v ≡ write_after cur = write-moved c.setup c.process (written_at c part) cur v at in
    let step : write_moved c.setup.processes (written_at c part).1 (write_kept cur) ≡ write_kept (write_after cur) = write-step c.setup c.process (written_at c part) cur at in
    record {
      access = ap (λ r. access_at c part (run_by r cur)) at.run ∙ write-next c.setup c.process (written_at c part) cur at;
      fresh =
          ap (λ r. places.is_fresh (run_by r cur)) at.run ∙ fresh-write cur.bit cur.copy cur.begun (get_or cur.bits cur.bit false)
          ∙ sym (ap (λ r. (cur.bit == 0) && (cur.copy == 0) && not cur.begun && not (is_settling r)) at.run);
      last = ap (λ r. is_last c part (run_by r cur)) at.run ∙ ap (λ (w : NumberWrite). w.bit == cur.width) step ∙ sym (ap is_over goes);
      run =
          ap (λ r. run_after c part (run_by r cur) v) at.run ∙ ap Writing step
          ∙ sym (ap (λ r. run_by r (write_after cur)) at.run) ∙ sym (ap run_at goes);
      next = same-after c part (bits_with (run_at cur) v) (moved cur v).bits writes;
      marks = same-marks c part (bits_with (run_at cur) v) (moved cur v).bits writes;
      stays = λ more. subst (IsAtPart c part) (sym goes) (at-write c part (write_after cur) writes (write-stays c.setup c.process (written_at c part) cur at (sym (ap is_over goes) ∙ more)));
      done = λ over. subst (IsDone c part) (sym goes) (record { reads = λ reads. absurd (cc); writes = λ _. at.run });
      begins = λ over. not-fresh_write cur.bit cur.width cur.begun (cur.copy + 1 == cur.copies) (cur.bit == 0) (cur.copy == 0) (not (is_settling cur.run)) at.going (sym (ap is_over goes) ∙ over);
    }

pub moves : (c : Call) (part : Part) (cur : CursorState) (v : Bool) → IsAtPart c part cur → Moves c part cur v
moves c part cur v at = by (is_read part) refl at
  where
    by : (b : Bool) → is_read part ≡ b → elim b as (λ _. Type 0) [ true ↦ ReadsAt c.setup c.process (read_at c part) cur | false ↦ WritesAt c.setup c.process (written_at c part) cur ] → Moves c part cur v
    by true reads at = reads-move c part cur v reads at
    by false writes at = writes-move c part cur v writes at
