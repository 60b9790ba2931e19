-- The bits that the writes of a process leave unfinished, by its cursors.
use Rattle.std.proofs.Common.{◌≡◌, ◌≢◌, ℕ, ◌+◌, ◌*◌, ◌/◌, ◌%◌, ◌<◌, ◌==◌, ◌&&◌, ◌||◌, Bool, true, false, cond, not, List, [], Some, None, refl, sym, ap, ◌∙◌, arith, inl, inr, ◌∷◌}
use Rattle.std.proofs.lemmas.Bool.{cases_eq, eqb-true, eqb-false, ne_eqb, eq-eqb}
use Rattle.std.specs.Prelude.{option_map, slice_index_or}
use Rattle.safe_bit.specs.declared.Move.TheVariants.{BeginWrite, EndWrite}
use Rattle.reader_copies.specs.Runs as copies
use Rattle.model.specs.{Access, Call, Field, Part, Place, Reading, Run, TornBit, Writing, access_of, begun_at, begun_closing, begun_run, bit_written, bits_with, enter, is_begin_of_write, is_last, is_read, made_with, named, next_written, part_after, place_after, place_of, run_after, torn_at, torn_in, torn_run, unfinished, value_of, width, write_moved, written_at}
use Rattle.safe_number.specs.{NumberWrite, new_write, torn_with}
use Rattle.model.specs.Closings.{Closing, Withdraws, Settles, Frees, Lowers, Quit, Ended, freeing, withdrawing, no_ticket, is_last_written, is_last_settled, closing_after, closing_of}

-- the bit that the last access of a write leaves to settle
abbrev pub bit_left : Access → TornBit
bit_left a = record { field = a.field; bit = a.bit; torn = record { made = made_with a; reader = 0; begun = false; value = None } }

-- an access of a write finishes its bit if it is the last one on it
pub ends-bit : (n m : ℕ) (v : Bool) → (not (is_begin_of_write (cond (m % 2 == 0) (BeginWrite v) EndWrite)) && (m / 2 + 1 == n)) ≡ (m + 1 == 2 * n)
ends-bit n m v = go (m % 2 == 0) refl
  where
    go : (b : Bool) → (m % 2 == 0) ≡ b → (not (is_begin_of_write (cond b (BeginWrite v) EndWrite)) && (m / 2 + 1 == n)) ≡ (m + 1 == 2 * n)
    go true h = let even : m % 2 ≡ 0 = eqb-true (m % 2) 0 h in sym (ne_eqb (m + 1) (2 * n) (λ u. omega (arith, u, even)))
    go false h =
        let odd : m % 2 ≢ 0 = eqb-false (m % 2) 0 h in
        elim (cases_eq (m / 2 + 1) n) [
          | inl e ↦ eq-eqb (m / 2 + 1) n e ∙ sym (eq-eqb (m + 1) (2 * n) (omega (arith, e, odd)))
          | inr d ↦ ne_eqb (m / 2 + 1) n d ∙ sym (ne_eqb (m + 1) (2 * n) (λ u. d (omega (arith, u, odd))))
        ]

-- how many accesses of its bit were made with it
counts : (m : ℕ) (v : Bool) → 2 * (m / 2) + cond (is_begin_of_write (cond (m % 2 == 0) (BeginWrite v) EndWrite)) 1 2 ≡ m + 1
counts m v = go (m % 2 == 0) refl
  where
    go : (b : Bool) → (m % 2 == 0) ≡ b → 2 * (m / 2) + cond (is_begin_of_write (cond b (BeginWrite v) EndWrite)) 1 2 ≡ m + 1
    go true h = let even : m % 2 ≡ 0 = eqb-true (m % 2) 0 h in omega (arith, even)
    go false h = let odd : m % 2 ≢ 0 = eqb-false (m % 2) 0 h in omega (arith, odd)

-- the torn bit of a write after an access, by whether its bit is done
remaining-after : (f : Field) (width bit m : ℕ) (v done : Bool)
    → let w : NumberWrite = cond done (record { width = width; bit = bit + 1; run = None }) (record { width = width; bit = bit; run = Some (let r : copies.Writing = record { value = v; made = m + 1; ended = done } in r) }) in
    torn_in f w ≡ cond done None (Some (named f (bit, (let t : copies.Settling = record { made = m + 1; reader = 0; begun = false; value = None } in t))))
remaining-after f width bit m v true = refl
remaining-after f width bit m v false =
    ap (λ b. option_map (named f) (torn_with bit (cond (b || false) None (Some (let t : copies.Settling = record { made = m + 1; reader = 0; begun = false; value = None } in t)))))
    (ne_eqb (m + 1) 0 (λ u. omega (arith, u)))

-- the bit that an access of a write leaves unfinished is the torn bit of the write after it
pub remaining-written : (n p : ℕ) (f : Field) (bits : List Bool) (w : NumberWrite) → option_map bit_left (unfinished n (Some (access_of p f (next_written bits w)))) ≡ torn_in f (write_moved n bits w)
remaining-written n p f bits w = ap (λ b. option_map bit_left (cond b None (Some x))) (ends-bit n m run.value) ∙ go (m + 1 == 2 * n) ∙ sym (remaining-after f w.width w.bit m run.value (m + 1 == 2 * n))
  where
    run : copies.Writing
    run = bit_written bits w

    m : ℕ
    m = run.made

    x : Access
    x = access_of p f (next_written bits w)

    go : (b : Bool) → option_map bit_left (cond b None (Some x)) ≡ cond b None (Some (named f (w.bit, (let t : copies.Settling = record { made = m + 1; reader = 0; begun = false; value = None } in t))))
    go true = refl
    go false = ap (λ k. Some (named f (w.bit, (let t : copies.Settling = record { made = k; reader = 0; begun = false; value = None } in t)))) (counts m run.value)

-- a write that has come to its end leaves none
pub remaining-done : (n : ℕ) (f : Field) (bits : List Bool) (w : NumberWrite) → w.bit < w.width → ((write_moved n bits w).bit == w.width) ≡ true → torn_in f (write_moved n bits w) ≡ None
remaining-done n f bits w inside = go ((bit_written bits w).made + 1 == 2 * n)
  where
    go : (b : Bool)
        → let to : NumberWrite = cond b (record { width = w.width; bit = w.bit + 1; run = None }) (record { width = w.width; bit = w.bit; run = Some (let r : copies.Writing = record { value = (bit_written bits w).value; made = (bit_written bits w).made + 1; ended = b } in r) }) in
        (to.bit == w.width) ≡ true → torn_in f to ≡ None
    go true l = refl
    go false l = let all : w.bit ≡ w.width = eqb-true w.bit w.width l in absurd (omega (arith, inside, all))

-- while its bit is torn the write goes on with the same value
pub value-stays : (n : ℕ) (f : Field) (bits : List Bool) (w : NumberWrite) (t : TornBit) → torn_in f (write_moved n bits w) ≡ Some t → (bit_written bits (write_moved n bits w)).value ≡ (bit_written bits w).value
value-stays n f bits w t = go ((bit_written bits w).made + 1 == 2 * n)
  where
    go : (b : Bool)
        → let to : NumberWrite = cond b (record { width = w.width; bit = w.bit + 1; run = None }) (record { width = w.width; bit = w.bit; run = Some (let r : copies.Writing = record { value = (bit_written bits w).value; made = (bit_written bits w).made + 1; ended = b } in r) }) in
        torn_in f to ≡ Some t → (bit_written bits to).value ≡ (bit_written bits w).value
    go true h = cc
    go false h = refl

-- a part of which nothing is made leaves none
pub remaining-new : (c : Call) (part : Part) → torn_at c (enter c part) ≡ None
remaining-new c part = go (is_read part)
  where
    go : (b : Bool) → torn_run c part (cond b (Reading [] false) (Writing (new_write (width c.setup (written_at c part).0)))) ≡ None
    go true = refl
    go false = refl

-- the torn bit of a place after an access of a write is that of the write
pub remaining-place : (c : Call) (part : Part) (w : NumberWrite) (u : Bool) → w.bit < w.width →
    torn_in (written_at c part).0 (write_moved c.setup.processes (written_at c part).1 w) ≡ torn_at c (place_after c (record { part = part; run = Writing w }) u)
remaining-place c part w u inside = go (is_last c part (Writing w)) refl
  where
    go : (b : Bool) → is_last c part (Writing w) ≡ b → torn_in (written_at c part).0 (write_moved c.setup.processes (written_at c part).1 w)
        ≡ torn_at c (cond b (enter c (part_after c part [])) (record { part = part; run = Writing (write_moved c.setup.processes (written_at c part).1 w) }))
    go true l = remaining-done c.setup.processes (written_at c part).0 (written_at c part).1 w inside l ∙ sym (remaining-new c (part_after c part []))
    go false l = refl

-- a read leaves none
pub remaining-read : (c : Call) (part : Part) (bits : List Bool) (begun u : Bool) → torn_at c (place_after c (record { part = part; run = Reading bits begun }) u) ≡ None
remaining-read c part bits begun u = go (is_last c part (Reading bits begun))
  where
    go : (b : Bool) → torn_at c (cond b (enter c (part_after c part (bits_with (Reading bits begun) u))) (record { part = part; run = run_after c part (Reading bits begun) u })) ≡ None
    go true = remaining-new c (part_after c part (bits_with (Reading bits begun) u))
    go false = refl

-- the value that a write is writing, by its cursor
abbrev pub value_run : Call → Part → Run → Bool
value_run c part (Writing w) = (bit_written (written_at c part).1 w).value
value_run c part (Reading bits begun) = false

abbrev pub value_at : Call → Place → Bool
value_at c at = value_run c at.part at.run

abbrev pub value_closing : Call → Closing → Bool
value_closing c (Withdraws w) = (bit_written (no_ticket c) w).value
value_closing c _ = false

-- it is that of the present bit
abbrev IsOfBit : List Bool → NumberWrite → Type 0
IsOfBit bits w = (bit_written bits w).value ≡ slice_index_or bits w.bit false

of-bit-moved : (n : ℕ) (bits : List Bool) (w : NumberWrite) → IsOfBit bits w → IsOfBit bits (write_moved n bits w)
of-bit-moved n bits w h = go ((bit_written bits w).made + 1 == 2 * n)
  where
    go : (b : Bool) →
        IsOfBit bits (cond b (record { width = w.width; bit = w.bit + 1; run = None }) (record { width = w.width; bit = w.bit; run = Some (let r : copies.Writing = record { value = (bit_written bits w).value; made = (bit_written bits w).made + 1; ended = b } in r) }))
    go true = refl
    go false = h

-- the value that a write is writing is that of the present bit, at every place of a call
of-bit-after : (c : Call) (at : Place) (v : Bool) → value_at c at ≡ begun_at c at → value_at c (place_after c at v) ≡ begun_at c (place_after c at v)
of-bit-after c at v h = go (is_last c at.part at.run)
  where
    new : (part : Part) (b : Bool) → value_run c part (cond b (Reading [] false) (Writing (new_write (width c.setup (written_at c part).0)))) ≡ begun_run c part (cond b (Reading [] false) (Writing (new_write (width c.setup (written_at c part).0))))
    new part true = refl
    new part false = refl

    on : (run : Run) → value_run c at.part run ≡ begun_run c at.part run → value_run c at.part (run_after c at.part run v) ≡ begun_run c at.part (run_after c at.part run v)
    on (Writing w) h = of-bit-moved c.setup.processes (written_at c at.part).1 w h
    on (Reading bits begun) h = refl

    go : (b : Bool) → value_at c (cond b (enter c (part_after c at.part (bits_with at.run v))) (record { part = at.part; run = run_after c at.part at.run v }))
        ≡ begun_at c (cond b (enter c (part_after c at.part (bits_with at.run v))) (record { part = at.part; run = run_after c at.part at.run v }))
    go true = new (part_after c at.part (bits_with at.run v)) (is_read (part_after c at.part (bits_with at.run v)))
    go false = on at.run h

pub value-begun : (c : Call) (accesses : List Access) → value_at c (place_of c accesses) ≡ begun_at c (place_of c accesses)
value-begun c [] = refl
value-begun c (a ∷ accesses) = of-bit-after c (place_of c accesses) (value_of a.how) (value-begun c accesses)

-- the value that a withdrawal is writing is that of the present bit
of-bit-closing : (c : Call) (at : Closing) (flick : Bool) → value_closing c at ≡ begun_closing c at → value_closing c (closing_after c at flick) ≡ begun_closing c (closing_after c at flick)
of-bit-closing c (Withdraws w) flick h = go (is_last_written c (no_ticket c) w)
  where
    go : (b : Bool) → value_closing c (cond b Quit (Withdraws (write_moved c.setup.processes (no_ticket c) w))) ≡ begun_closing c (cond b Quit (Withdraws (write_moved c.setup.processes (no_ticket c) w)))
    go true = refl
    go false = of-bit-moved c.setup.processes (no_ticket c) w h
of-bit-closing c (Settles field bit begun taken is t) flick h = go (is_last_settled c t (copies.settled_at t flick))
  where
    go : (b : Bool) → value_closing c (cond b (freeing c is) (Settles field bit begun taken is (copies.settle_after t (copies.settled_at t flick)))) ≡ begun_closing c (cond b (freeing c is) (Settles field bit begun taken is (copies.settle_after t (copies.settled_at t flick))))
    go true = refl
    go false = refl
of-bit-closing c (Frees is w) flick h = go (is_last_written c (no_ticket c) w)
  where
    go : (b : Bool) → value_closing c (cond b (Lowers (new_write 1)) (Frees is (write_moved c.setup.processes (no_ticket c) w))) ≡ begun_closing c (cond b (Lowers (new_write 1)) (Frees is (write_moved c.setup.processes (no_ticket c) w)))
    go true = refl
    go false = refl
of-bit-closing c (Lowers w) flick h = go (is_last_written c (false ∷ []) w)
  where
    go : (b : Bool) → value_closing c (cond b Ended (Lowers (write_moved c.setup.processes (false ∷ []) w))) ≡ begun_closing c (cond b Ended (Lowers (write_moved c.setup.processes (false ∷ []) w)))
    go true = refl
    go false = refl
of-bit-closing c Quit flick h = refl
of-bit-closing c Ended flick h = refl

pub value-withdrawn : (c : Call) (flicks : List Bool) → value_closing c (closing_of c (withdrawing c) flicks) ≡ begun_closing c (closing_of c (withdrawing c) flicks)
value-withdrawn c [] = refl
value-withdrawn c (flick ∷ flicks) = of-bit-closing c (closing_of c (withdrawing c) flicks) flick (value-withdrawn c flicks)
