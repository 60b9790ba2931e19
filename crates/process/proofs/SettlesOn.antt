-- The memory unit settles a bit by its cursor.
use Rattle.std.proofs.Common.{◌≡◌, ◌<◌, ℕ, ◌+◌, ◌==◌, ◌&&◌, Bool, true, false, cond, not, [], get_or, length, Option, Some, unwrap_or, refl, sym, ap, ◌∙◌, subst, arith}
use Rattle.std.proofs.lemmas.Bool.{eq-eqb, ne_eqb}
use Rattle.std.specs.Prelude.{IfSome}
use Rattle.plain_store.specs.{Reply, Setup}
use Rattle.registers.specs.safe_bit.declared.moves.Move.TheVariants.{BeginWrite, EndWrite, Settle}
use Rattle.registers.specs.reader_copies.Runs as copies
use Rattle.model.specs.declared.access.Field.TheVariants.{Ticket}
use Rattle.model.specs.Closings as closing
use Rattle.model.specs.{freeing, is_last_settled, settled_marks}
use Rattle.laws.specs.{Closes}
use Rattle.registers.specs.{CursorState, after_by, ends_copy, ends_settling, is_over, move_by, moved, settling_kept, value_written}
use Rattle.registers.specs.declared.cursor.RegisterAccessKind.TheVariants.{Settles}
use Rattle.registers.proofs.Steps.{copy_inside}
use Rattle.process.specs.declared.activity.Activity.TheVariants as work
use Rattle.process.specs.{HasMoved, KeepsPlace, PartState, ProcessState, SettlesAt, marks_on, reply_taken, settling_at, state_at, stepped, with_doing}
use Rattle.process.proofs.ClosingsOn.{clearing, then_closes}

-- THE CURSOR AFTER ITS NEXT ACCESS, settling at v

abbrev settled : ℕ → Bool → CursorState → CursorState
settled cut v cur = record cur {
  run = Settles cut (Some v);
  bit = cond (ends_settling cut cur) cur.width cur.bit;
  copy = cond (ends_settling cut cur) 0 (cond (ends_copy cut cur) (cur.copy + 1) cur.copy);
  begun = not (ends_copy cut cur);
}

-- the value is chosen from the first access on
value-there : (value : Option Bool) (flick begun opened : Bool) → (begun ≡ true → (v : Bool) × (value ≡ Some v)) →
    value_written value (cond begun EndWrite (cond opened (Settle (unwrap_or value flick)) (BeginWrite (unwrap_or value flick)))) ≡ Some (unwrap_or value flick)
value-there value flick true opened there = let t = there refl in t.1 ∙ sym (ap (λ o. Some (unwrap_or o flick)) t.1)
value-there value flick false true there = refl
value-there value flick false false there = refl

settled-is : (s : Setup) (p : ℕ) (taken : Option (Bool × Reply)) (cur : CursorState) (flick : Bool) → (at : SettlesAt s p taken cur) → moved cur flick ≡ settled at.cut (unwrap_or at.value flick) cur
settled-is s p taken cur flick at =
    (λ i. after_by (at.run i) cur (move_by (at.run i) cur flick))
    ∙ ap (λ (value : Option Bool). let next : CursorState = record (settled at.cut (unwrap_or at.value flick) cur) { run = Settles at.cut value } in next) (value-there at.value flick cur.begun (copies.is_open_at at.cut cur.copy) at.settled)

-- it is the last access of the settling
last-copy : (ends : Bool) (n copy made : ℕ) (v : Bool) → copy < n →
    ((let t : copies.Settling = cond ends (record { made = made; reader = copy + 1; begun = false; value = Some v }) (record { made = made; reader = copy; begun = true; value = Some v }) in t.reader) == n) ≡ (ends && (copy + 1 == n))
last-copy true n copy made v inside = refl
last-copy false n copy made v inside = ne_eqb copy n (omega arith)

over-if : (ends : Bool) (bit width : ℕ) → bit < width → (cond ends width bit == width) ≡ ends
over-if true bit width going = eq-eqb width width refl
over-if false bit width going = ne_eqb bit width (omega arith)

last-is : (k : PartState) (taken : Option (Bool × Reply)) (cur : CursorState) (flick : Bool) → (at : SettlesAt k.call.setup k.call.process taken cur) →
    is_last_settled k.call (settling_kept at.cut at.value cur) (unwrap_or at.value flick) ≡ is_over (moved cur flick)
last-is k taken cur flick at =
    let n : ℕ = k.call.setup.processes in
    let v : Bool = unwrap_or at.value flick in
    last-copy (ends_copy at.cut cur) n cur.copy at.cut v (omega (arith, at.copy, at.copies))
    ∙ ap (λ m. ends_copy at.cut cur && (cur.copy + 1 == m)) (sym at.copies)
    ∙ sym (over-if (ends_settling at.cut cur) cur.bit cur.width at.going)
    ∙ sym (ap is_over (settled-is k.call.setup k.call.process taken cur flick at))

-- if it is not the last access, the settling continues
goes-on : (ends last : Bool) (made copy : ℕ) (v : Bool) → (ends && last) ≡ false →
    (let t : copies.Settling = record { made = made; reader = cond (ends && last) 0 (cond ends (copy + 1) copy); begun = not ends; value = Some v } in t)
    ≡ cond ends (record { made = made; reader = copy + 1; begun = false; value = Some v }) (record { made = made; reader = copy; begun = true; value = Some v })
goes-on true last made copy v more = ap (λ b. let t : copies.Settling = record { made = made; reader = cond b 0 (copy + 1); begun = false; value = Some v } in t) more
goes-on false last made copy v more = refl

not-last : (s : Setup) (p : ℕ) (taken : Option (Bool × Reply)) (cur : CursorState) (flick : Bool) → (at : SettlesAt s p taken cur) → is_over (moved cur flick) ≡ false → ends_settling at.cut cur ≡ false
not-last s p taken cur flick at more =
    sym (over-if (ends_settling at.cut cur) cur.bit cur.width at.going) ∙ sym (ap is_over (settled-is s p taken cur flick at)) ∙ more

settling-next : (s : Setup) (p : ℕ) (taken : Option (Bool × Reply)) (inside : Bool) (cur : CursorState) (flick : Bool) → (at : SettlesAt s p taken cur) → is_over (moved cur flick) ≡ false →
    settling_at (moved cur flick).run inside (reply_taken taken) (moved cur flick)
    ≡ closing.Settles cur.register.field cur.bit (get_or cur.bits cur.bit false) (reply_taken taken) inside (copies.settle_after (settling_kept at.cut at.value cur) (unwrap_or at.value flick))
settling-next s p taken inside cur flick at more =
    let v : Bool = unwrap_or at.value flick in
    let none : ends_settling at.cut cur ≡ false = not-last s p taken cur flick at more in
    let bit : cond (ends_settling at.cut cur) cur.width cur.bit ≡ cur.bit = ap (λ b. cond b cur.width cur.bit) none in
    ap (λ (c : CursorState). settling_at c.run inside (reply_taken taken) c) (settled-is s p taken cur flick at)
    ∙ (λ i. closing.Settles cur.register.field (bit i) (get_or cur.bits (bit i) false) (reply_taken taken) inside (goes-on (ends_copy at.cut cur) (cur.copy + 1 == cur.copies) at.cut cur.copy v none i))

settling-stays : (s : Setup) (p : ℕ) (taken : Option (Bool × Reply)) (cur : CursorState) (flick : Bool) → SettlesAt s p taken cur → is_over (moved cur flick) ≡ false → SettlesAt s p taken (moved cur flick)
settling-stays s p taken cur flick at more =
    let v : Bool = unwrap_or at.value flick in
    let none : ends_settling at.cut cur ≡ false = not-last s p taken cur flick at more in
    let bit : cond (ends_settling at.cut cur) cur.width cur.bit ≡ cur.bit = ap (λ b. cond b cur.width cur.bit) none in
    subst (SettlesAt s p taken) (sym (settled-is s p taken cur flick at)) (record {
      cut = at.cut;
      value = Some v;
      run = refl;
      owner = at.owner;
      reader = at.reader;
      copies = at.copies;
      wide = at.wide;
      copy = copy_inside cur.copies cur.copy (ends_copy at.cut cur) at.copy;
      going = subst (λ b. b < cur.width) (sym bit) at.going;
      known = subst (λ b. b < length cur.bits) (sym bit) at.known;
      settled = λ _. (v, refl);
      written = subst (λ b. IfSome taken (λ (t : Bool × Reply). t.0 ≡ get_or cur.bits b false)) (sym bit) at.written;
    })

-- THE PROCESS

-- the work after an access at v of this settling, the last one or not
abbrev settles_to : PartState → (inside : Bool) → Option (Bool × Reply) → CursorState → copies.Settling → (v last : Bool) → ProcessState
settles_to k inside taken cur t v last = then_closes k (cond last (freeing k.call inside) (closing.Settles cur.register.field cur.bit (get_or cur.bits cur.bit false) (reply_taken taken) inside (copies.settle_after t v)))

settles-on : (k : PartState) (inside flick value : Bool) (taken : Option (Bool × Reply)) (before cur : CursorState) (fresh : Bool) → (h : HasMoved k (work.Settles inside taken) flick value before cur fresh) →
    (let at = h.keeps.working in
    stepped (state_at k (work.Settles inside taken) before) flick value
    ≡ settles_to k inside taken before (settling_kept at.cut at.value before) (unwrap_or at.value flick) (is_over cur))
settles-on k inside flick value taken before cur fresh h =
    let at = h.keeps.working in
    ap (λ r. stepped (with_doing k (Closes k.call.command k.call.number (settling_at r inside (reply_taken taken) before))) flick value) at.run
    ∙ ap (settles_to k inside taken before (settling_kept at.cut at.value before) (unwrap_or at.value flick))
    (last-is k taken before flick at ∙ ap is_over (sym h.moves))

pub settles-within : (k : PartState) (inside flick value : Bool) (taken : Option (Bool × Reply)) (before cur : CursorState) (fresh : Bool) → HasMoved k (work.Settles inside taken) flick value before cur fresh → is_over cur ≡ false →
    state_at k (work.Settles inside taken) cur ≡ stepped (state_at k (work.Settles inside taken) before) flick value
settles-within k inside flick value taken before cur fresh h more =
    let at = h.keeps.working in
    ap (state_at k (work.Settles inside taken)) h.moves
    ∙ ap (λ at. with_doing k (Closes k.call.command k.call.number at)) (settling-next k.call.setup k.call.process taken inside before flick at (ap is_over (sym h.moves) ∙ more))
    ∙ sym (settles-on k inside flick value taken before cur fresh h ∙ ap (settles_to k inside taken before (settling_kept at.cut at.value before) (unwrap_or at.value flick)) more)

pub settles-over : (k : PartState) (inside flick value : Bool) (taken : Option (Bool × Reply)) (before cur : CursorState) (fresh : Bool) → HasMoved k (work.Settles inside taken) flick value before cur fresh → is_over cur ≡ true →
    state_at k (work.Frees inside) (clearing k Ticket) ≡ stepped (state_at k (work.Settles inside taken) before) flick value
settles-over k inside flick value taken before cur fresh h over =
    let at = h.keeps.working in
    sym (settles-on k inside flick value taken before cur fresh h ∙ ap (settles_to k inside taken before (settling_kept at.cut at.value before) (unwrap_or at.value flick)) over)

pub settles-marks : (k : PartState) (inside flick value : Bool) (taken : Option (Bool × Reply)) (before cur : CursorState) (fresh : Bool) → (h : HasMoved k (work.Settles inside taken) flick value before cur fresh) →
    marks_on (state_at k (work.Settles inside taken) before) flick value
    ≡ cond (is_over cur) (settled_marks (get_or before.bits before.bit false) (reply_taken taken) (unwrap_or h.keeps.working.value flick)) []
settles-marks k inside flick value taken before cur fresh h =
    let at = h.keeps.working in
    ap (λ r. marks_on (with_doing k (Closes k.call.command k.call.number (settling_at r inside (reply_taken taken) before))) flick value) at.run
    ∙ ap (λ b. cond b (settled_marks (get_or before.bits before.bit false) (reply_taken taken) (unwrap_or at.value flick)) []) (last-is k taken before flick at ∙ ap is_over (sym h.moves))

pub still-settles : (k : PartState) (inside flick value : Bool) (taken : Option (Bool × Reply)) (before cur : CursorState) (fresh : Bool) → HasMoved k (work.Settles inside taken) flick value before cur fresh → is_over cur ≡ false → KeepsPlace k (work.Settles inside taken) cur
still-settles k inside flick value taken before cur fresh h more = record {
  call = h.keeps.call;
  working = subst (SettlesAt k.call.setup k.call.process taken) (sym h.moves) (settling-stays k.call.setup k.call.process taken before flick h.keeps.working (ap is_over (sym h.moves) ∙ more));
}

-- the value that the settling has chosen
pub value-settled : (k : PartState) (inside flick value : Bool) (taken : Option (Bool × Reply)) (before cur : CursorState) (fresh : Bool) → (h : HasMoved k (work.Settles inside taken) flick value before cur fresh) →
    cur.run ≡ Settles h.keeps.working.cut (Some (unwrap_or h.keeps.working.value flick))
value-settled k inside flick value taken before cur fresh h =
    ap (λ (c : CursorState). c.run) (h.moves ∙ settled-is k.call.setup k.call.process taken before flick h.keeps.working)
