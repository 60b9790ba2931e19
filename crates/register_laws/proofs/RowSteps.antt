-- A step of a cursor is a step on the row of its register.
use Rattle.std.proofs.Common.{◌≡◌, ℕ, ◌+◌, ◌<◌, ◌==◌, ◌&&◌, ◌||◌, Bool, true, false, not, cond, List, [], ◌∷◌, ◌++◌, get_or, length, Option, None, Some, unwrap_or, is_some, refl, sym, ap, ◌∙◌, subst, arith, length-append}
use Rattle.std.proofs.lemmas.Bool.{eq-eqb, ne_eqb}
use Rattle.std.proofs.lemmas.List.FromFn.{get_or-map-range_with_len}
use Rattle.model.specs.safe_bit.Cell.{Cell, read_answer}
use Rattle.model.specs.safe_bit.declared.moves.Move.TheVariants.{BeginWrite, EndWrite, BeginRead, EndRead, Settle}
use Rattle.reader_copies.specs.{Made, Settling, Writing, next_settle, next_write, row_after, settle_after, settled_at}
use Rattle.reader_copies.specs.Row as rows
use Rattle.reader_copies.specs.Runs as copies
use Rattle.safe_number.specs.{NumberRead, NumberWrite, bit_in, bit_read, bit_write, bits_in, loaded, number_read_after, number_write_after, write_on}
use Rattle.safe_number.specs.Runs as number
use Rattle.model.specs.{Access, bit_written, ended, value_of}
use Rattle.registers.specs.{CursorState, Fits, IsAtCopy, after_by, bit_begun, cell_at, cursor_after, ends_copy, ends_settling, is_over, lane_number, made_of_bit, move_by, next_answered, read_after, read_move, settling, settling_kept, value_written, write_after, write_kept, write_move}
use Rattle.registers.specs.declared.cursor.RegisterAccessKind.TheVariants.{Writes, Settles}
use Rattle.registers.proofs.Kept.{next-kept, write-kept}
use Rattle.register_laws.specs.Rows.{HasNext, IsAtRead, IsAtSettling, IsAtWrite, StepIsOnItsRow, StepKeepsOtherRows, StepsAsRead, StepsAsSettling, StepsAsWrite, made_of, memory_after, row_at}
use Rattle.register_laws.proofs.RowMoves.{row-cell, row-length, row-moved, row-stays}

-- the lane of a cursor's access is in the memory
lane-there : (memory : List (List Cell)) (c : CursorState) → Fits memory c → lane_number c.copies c.register (c.reader + c.copy) < length memory
lane-there memory c fits = omega (arith, fits.lanes.lanes, fits.copy)

pub step-row : StepIsOnItsRow
step-row memory c flick h = row-moved c.copies memory c.register (c.reader + c.copy) c.bit (next_answered c memory flick).how h.fits.copy (lane-there memory c h.fits)

pub step-others : StepKeepsOtherRows
step-others memory c flick other h differ = row-stays c.copies memory c.register other (c.reader + c.copy) _ h.fits.copy differ

-- the row after a step, by the access that it makes
row-by : (memory : List (List Cell)) (c : CursorState) (flick : Bool) (made : Made) → HasNext memory c → made_of (next_answered c memory flick) ≡ made →
    row_at c (memory_after c memory (next_answered c memory flick)) ≡ row_after (row_at c memory) c.bit made
row-by memory c flick made h is = step-row memory c flick h ∙ ap (row_after (row_at c memory) c.bit) is

-- the value with which the next access of a cursor ends, if that ends a read
abbrev answer : CursorState → List (List Cell) → Bool → Bool
answer c memory flick = read_answer (cell_at memory (lane_number c.copies c.register (c.reader + c.copy)) c.bit) flick

-- A WRITE

first-reader : (c : CursorState) → c.run ≡ Writes → IsAtCopy c.run c.reader c.copy → c.reader ≡ 0
first-reader c run at = subst (λ r. IsAtCopy r c.reader c.copy) run at

ended-write : (v w begun : Bool) → ended v (cond begun EndWrite (BeginWrite w)) ≡ cond begun EndWrite (BeginWrite w)
ended-write v w true = refl
ended-write v w false = refl

write-access : (memory : List (List Cell)) (c : CursorState) (flick : Bool) → c.run ≡ Writes → c.reader ≡ 0 → made_of (next_answered c memory flick) ≡ record { reader = c.copy; how = write_move c }
write-access memory c flick run first =
    let copy : c.reader + c.copy ≡ c.copy = omega (arith, first) in
    let how : ended (answer c memory flick) (move_by c.run c flick) ≡ write_move c =
    ap (λ r. ended (answer c memory flick) (move_by r c flick)) run ∙ ended-write (answer c memory flick) (get_or c.bits c.bit false) c.begun in
    λ i. record { reader = copy i; how = how i }

-- the write of the present bit
bit-write : (c : CursorState) (value : List ℕ) → bits_in value c.width ≡ c.bits → c.bit < c.width → bit_write value (write_kept c) ≡ bit_written c.bits (write_kept c)
bit-write c value bits inside =
    let same : bit_in value c.bit ≡ get_or c.bits c.bit false =
    sym (get_or-map-range_with_len (bit_in value) 0 c.width c.bit c.bit false inside (omega arith)) ∙ ap (λ l. get_or l c.bit false) bits in
    let fresh : Bool → Writing = λ v. record { value = v; made = 0; ended = false } in
    ap (λ v. unwrap_or (write_kept c).run (fresh v)) same

write-made : (c : CursorState) (value : List ℕ) → bits_in value c.width ≡ c.bits → c.bit < c.width → record { reader = c.copy; how = write_move c } ≡ next_write (bit_write value (write_kept c))
write-made c value bits inside = sym (ap next_write (bit-write c value bits inside) ∙ ap (λ (x : ℕ × Made). x.1) (next-kept c))

write-after : (c : CursorState) (value : List ℕ) → bits_in value c.width ≡ c.bits → c.bit < c.width → c.copy < c.copies → number_write_after c.copies value (write_kept c) ≡ write_kept (write_after c)
write-after c value bits inside copy =
    ap (λ (x : Writing). write_on (write_kept c) (copies.write_after c.copies x)) (bit-write c value bits inside)
    ∙ write-kept c copy

write-steps : (memory : List (List Cell)) (c : CursorState) (value : List ℕ) (flick : Bool) → HasNext memory c → c.run ≡ Writes → bits_in value c.width ≡ c.bits →
    StepsAsWrite memory c value (write_kept c) (next_answered c memory flick)
write-steps memory c value flick h run bits =
    let first : c.reader ≡ 0 = first-reader c run h.fits.at in
    let made : made_of (next_answered c memory flick) ≡ next_write (bit_write value (write_kept c)) = write-access memory c flick run first ∙ write-made c value bits h.going in
    let after : cursor_after c (next_answered c memory flick).how ≡ write_after c = λ i. after_by (run i) c (next_answered c memory flick).how in
    let kept : number_write_after (length (row_at c memory)) value (write_kept c) ≡ write_kept (write_after c) =
    ap (λ n. number_write_after n value (write_kept c)) (row-length c.copies memory c.register) ∙ write-after c value bits h.going (omega (arith, h.fits.copy, first)) in
    record {
      bit = refl;
      made = made;
      row = row-by memory c flick _ h made;
      progress = subst (IsAtWrite value (number_write_after (length (row_at c memory)) value (write_kept c))) (sym after) (record { run = run; bits = bits; progress = kept });
    }

pub writes : (memory : List (List Cell)) (c : CursorState) (value : List ℕ) (w : NumberWrite) (flick : Bool) → HasNext memory c → IsAtWrite value w c →
    StepsAsWrite memory c value w (next_answered c memory flick)
writes memory c value w flick h at = subst (λ w. StepsAsWrite memory c value w (next_answered c memory flick)) (sym at.progress) (write-steps memory c value flick h at.run at.bits)

-- A READ

ended-read : (v flick begun : Bool) → ended v (read_move begun flick) ≡ cond begun (EndRead v) BeginRead
ended-read v flick true = refl
ended-read v flick false = refl

read-bits : (bits : List Bool) (begun v : Bool) → cond begun (bits ++ v ∷ []) bits ≡ cond begun (bits ++ value_of (cond begun (EndRead v) BeginRead) ∷ []) bits
read-bits bits true v = refl
read-bits bits false v = refl

read-long : (bits : List Bool) (bit : ℕ) (begun u : Bool) → length bits ≡ bit → length (cond begun (bits ++ u ∷ []) bits) ≡ cond begun (bit + 1) bit
read-long bits bit true u same = omega (arith, length-append bits (u ∷ []), same)
read-long bits bit false u same = same

pub reads : (memory : List (List Cell)) (c : CursorState) (r : NumberRead) (flick : Bool) → HasNext memory c → IsAtRead r c → StepsAsRead memory c r flick (next_answered c memory flick)
reads memory c r flick h at =
    let own : c.copy ≡ 0 = subst (λ k. IsAtCopy k c.reader c.copy) at.run h.fits.at in
    let reader : c.reader + c.copy ≡ c.reader = omega (arith, own) in
    let here : length r.bits ≡ c.bit = ap length at.bits ∙ at.bit in
    let v : Bool = loaded (row_at c memory) c.reader r flick in
    let value : answer c memory flick ≡ v =
    sym (ap (λ k. read_answer (rows.cell_at (row_at c memory) k c.reader) flick) here
    ∙ ap (λ x. read_answer x flick) (row-cell c.copies memory c.register c.bit c.reader (omega (arith, h.fits.copy)))
    ∙ ap (λ k. read_answer (cell_at memory (lane_number c.copies c.register k) c.bit) flick) (sym reader)) in
    let a : Access = next_answered c memory flick in
    let how : a.how ≡ cond c.begun (EndRead v) BeginRead =
    ap (λ k. ended (answer c memory flick) (move_by k c flick)) at.run ∙ ended-read (answer c memory flick) flick c.begun ∙ ap (λ x. cond c.begun (EndRead x) BeginRead) value in
    let made : made_of a ≡ copies.next_read c.reader (bit_read r) v = λ i. record { reader = reader i; how = (how ∙ ap (λ b. cond b (EndRead v) BeginRead) (sym at.begun)) i } in
    let after : cursor_after c a.how ≡ read_after c (value_of (cond c.begun (EndRead v) BeginRead)) = (λ i. after_by (at.run i) c a.how) ∙ ap (λ m. read_after c (value_of m)) how in
    record {
      bit = sym here;
      made = made;
      row = row-by memory c flick _ h made ∙ ap (λ k. row_after (row_at c memory) k (copies.next_read c.reader (bit_read r) v)) (sym here);
      progress = subst (IsAtRead (number_read_after r v)) (sym after) (record {
        run = at.run;
        width = at.width;
        bits = (λ i. cond (at.begun i) (at.bits i ++ v ∷ []) (at.bits i)) ∙ read-bits c.bits c.begun v;
        begun = ap not at.begun;
        bit = read-long c.bits c.bit c.begun _ at.bit;
      });
    }

-- A SETTLING

ended-settle : (v u begun opened : Bool) → ended v (cond begun EndWrite (cond opened (Settle u) (BeginWrite u))) ≡ cond begun EndWrite (cond opened (Settle u) (BeginWrite u))
ended-settle v u true opened = refl
ended-settle v u false true = refl
ended-settle v u false false = refl

-- the value is chosen with the first access
value-chosen : (value : Option Bool) (flick begun opened : Bool) → (begun ≡ true → is_some value ≡ true) →
    value_written value (cond begun EndWrite (cond opened (Settle (unwrap_or value flick)) (BeginWrite (unwrap_or value flick)))) ≡ Some (unwrap_or value flick)
value-chosen (Some v) flick true opened chosen = refl
value-chosen None flick true opened chosen = absurd (let no : false ≡ true = chosen refl in cc)
value-chosen value flick false true chosen = refl
value-chosen value flick false false chosen = refl

over-if : (ends : Bool) (bit wide : ℕ) → bit < wide → (cond ends wide bit == wide) ≡ ends
over-if true bit wide going = eq-eqb wide wide refl
over-if false bit wide going = ne_eqb bit wide (omega arith)

-- the last copy is settled
last-copy : (ends : Bool) (n copy made : ℕ) (v : Bool) → copy < n →
    (ends && (copy + 1 == n)) ≡ ((let t : Settling = cond ends (record { made = made; reader = copy + 1; begun = false; value = Some v }) (record { made = made; reader = copy; begun = true; value = Some v }) in t.reader) == n)
last-copy true n copy made v inside = refl
last-copy false n copy made v inside = sym (ne_eqb copy n (omega arith))

-- the settling continues, if that is not its last access
goes-on : (ends last : Bool) (made copy : ℕ) (v : Bool) → (ends && last) ≡ false →
    (let t : Settling = record { made = made; reader = cond (ends && last) 0 (cond ends (copy + 1) copy); begun = not ends; value = Some v } in t)
    ≡ cond ends (record { made = made; reader = copy + 1; begun = false; value = Some v }) (record { made = made; reader = copy; begun = true; value = Some v })
goes-on true last made copy v more = ap (λ b. let t : Settling = record { made = made; reader = cond b 0 (copy + 1); begun = false; value = Some v } in t) more
goes-on false last made copy v more = refl

-- the cursor after its next access, settling at v
abbrev settled : ℕ → Bool → CursorState → CursorState
settled cut v c = record c {
  run = Settles cut (Some v);
  bit = cond (ends_settling cut c) c.width c.bit;
  copy = cond (ends_settling cut c) 0 (cond (ends_copy cut c) (c.copy + 1) c.copy);
  begun = not (ends_copy cut c);
}

settles-on : (c : CursorState) (cut : ℕ) (value : Option Bool) (v : Bool) → is_over (settled cut v c) ≡ false → c.bit < c.width →
    IsAtSettling c.bit (settle_after (settling_kept cut value c) v) (settled cut v c)
settles-on c cut value v more going =
    let none : ends_settling cut c ≡ false = sym (over-if (ends_settling cut c) c.bit c.width going) ∙ more in
    subst (λ t. IsAtSettling c.bit t (settled cut v c)) (goes-on (ends_copy cut c) (c.copy + 1 == c.copies) cut c.copy v none)
    (record { run = refl; bit = ap (λ b. cond b c.width c.bit) none; copy = refl; begun = refl; value = λ _. refl })

settling-steps : (memory : List (List Cell)) (c : CursorState) (cut : ℕ) (value : Option Bool) (flick : Bool) → HasNext memory c → c.run ≡ Settles cut value → (c.begun ≡ true → is_some value ≡ true) →
    StepsAsSettling memory c c.bit (settling_kept cut value c) (unwrap_or value flick) (next_answered c memory flick)
settling-steps memory c cut value flick h run chosen =
    let first : c.reader ≡ 0 = subst (λ r. IsAtCopy r c.reader c.copy) run h.fits.at in
    let copy : c.reader + c.copy ≡ c.copy = omega (arith, first) in
    let v : Bool = unwrap_or value flick in
    let opened : Bool = copies.is_open_at cut c.copy in
    let a : Access = next_answered c memory flick in
    let how : a.how ≡ cond c.begun EndWrite (cond opened (Settle v) (BeginWrite v)) =
    ap (λ r. ended (answer c memory flick) (move_by r c flick)) run ∙ ended-settle (answer c memory flick) v c.begun opened in
    let made : made_of a ≡ next_settle (settling_kept cut value c) v = λ i. record { reader = copy i; how = how i } in
    let after : cursor_after c a.how ≡ settled cut v c =
    (λ i. after_by (run i) c (how i)) ∙ ap (λ (x : Option Bool). let next : CursorState = record (settled cut v c) { run = Settles cut x } in next) (value-chosen value flick c.begun opened chosen) in
    let ends : ends_settling cut c ≡ ((settle_after (settling_kept cut value c) v).reader == length (row_at c memory)) =
    last-copy (ends_copy cut c) c.copies c.copy cut v (omega (arith, h.fits.copy, first))
    ∙ ap (λ n. (settle_after (settling_kept cut value c) v).reader == n) (sym (row-length c.copies memory c.register)) in
    record {
      bit = refl;
      made = made;
      row = row-by memory c flick _ h made;
      over = ap is_over after ∙ over-if (ends_settling cut c) c.bit c.width h.going ∙ ends;
      progress = λ more. subst (IsAtSettling c.bit (settle_after (settling_kept cut value c) v)) (sym after) (settles-on c cut value v (sym (ap is_over after) ∙ more) h.going);
    }

pub settles : (memory : List (List Cell)) (c : CursorState) (bit : ℕ) (t : Settling) (flick : Bool) → HasNext memory c → IsAtSettling bit t c →
    StepsAsSettling memory c bit t (settled_at t flick) (next_answered c memory flick)
settles memory c bit t flick h at =
    let v : Bool = settled_at t flick in
    let a : Access = next_answered c memory flick in
    let kept : settling_kept t.made t.value c ≡ t = λ i. record { made = t.made; reader = sym at.copy i; begun = sym at.begun i; value = t.value } in
    let chosen : c.begun ≡ true → is_some t.value ≡ true = λ begun. at.value (at.begun ∙ begun) in
    subst (λ b. StepsAsSettling memory c b t v a) at.bit
    (subst (λ t'. StepsAsSettling memory c c.bit t' v a) kept (settling-steps memory c t.made t.value flick h at.run chosen))

-- THE BEGINS

-- the settling that a write which was interrupted needs
torn-kept : (made : ℕ) (v : Bool) (at bit : ℕ) (t : Settling) → number.torn_run at (bit_begun made v) ≡ Some (bit, t) → (at ≡ bit) × (t ≡ record { made = made; reader = 0; begun = false; value = None })
torn-kept made v at bit t h = go (made == 0) refl
  where
    run : Bool → Option Writing
    run b = cond b None (Some (record { value = v; made = made; ended = false }))

    its : Settling
    its = record { made = made; reader = 0; begun = false; value = None }

    go : (b : Bool) → (made == 0) ≡ b → (at ≡ bit) × (t ≡ its)
    go true is = let none : ◌≡◌ {A = Option (ℕ × Settling)} None (Some (bit, t)) = sym (ap (λ b. number.torn_run at (run b)) is) ∙ h in absurd (cc)
    go false is =
        let f : Some (at, its) ≡ Some (bit, t) = sym (ap (λ b. number.torn_run at (cond b None (Some (record { value = v; made = made; ended = false })))) is ∙ ap (λ b. number.torn_with at (cond (b || false) None (Some its))) is) ∙ h in
        let pair : (at, its) ≡ (bit, t) = cc in
        (ap (λ (x : ℕ × Settling). x.0) pair, sym (ap (λ (x : ℕ × Settling). x.1) pair))

pub settlings-begin : (value : List ℕ) (w : NumberWrite) (c : CursorState) (bit : ℕ) (t : Settling) → IsAtWrite value w c → number.torn_bit w ≡ Some (bit, t) → IsAtSettling bit t (settling c)
settlings-begin value w c bit t at torn =
    let its = torn-kept (made_of_bit c) (get_or c.bits c.bit false) c.bit bit t (sym (ap number.torn_bit at.progress) ∙ torn) in
    subst (λ t. IsAtSettling bit t (settling c)) (sym its.1) (record { run = refl; bit = its.0; copy = refl; begun = refl; value = λ begun. let no : false ≡ true = begun in absurd (cc) })
