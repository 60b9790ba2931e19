-- The invariants of every run.
use Rattle.std.proofs.Common.{◌≡◌, ◌<◌, ◌≤◌, ℕ, zero, suc, ◌+◌, ◌*◌, Bool, false, cond, List, ap, refl, sym, ◌∙◌, arith, subst, inl, inr, length}
use mir.Val.{bool_byte}
use Rattle.std.proofs.lemmas.Bool.{cases_lt}
use Rattle.std.proofs.lemmas.List.{set_past}
use Rattle.std.proofs.Math.Nat.{mul-le-mul_left}
use Rattle.safe_bit.specs.Cell.{Cell}
use Rattle.safe_bit.specs.{Move}
use Rattle.choices.specs.{FlickState, after_flick, flick_of, flicks_after}
use Rattle.model.specs.{Access, value_of}
use Rattle.registers.specs.{CursorState, Fits, HasLanes, IsAtCopy, LeadsTo, RegisterAccessKind, RegisterName, access_next, after_by, answered, applied, cursor_after, ends_copy, ends_overlapped, is_settling, lane_number, lane_of_access, memory_moved, newest_of, next_access, overlapped_of, rest_by, rest_of, run_of}
use Rattle.registers.specs.Accesses.{made_by}
use Rattle.registers.specs.declared.cursor.RegisterAccessKind.TheVariants.{Reads, Writes, Settles}
use Rattle.registers.proofs.Iterates.{byte-one, overlapped-more, run-more}
use Rattle.registers.proofs.Steps.{copy_inside, lanes-moved, read-counts, write-counts}

-- also where there is no such lane
pub lanes-moved_anywhere : (memory : List (List Cell)) (at bit lane copies width : ℕ) (how : Move) → HasLanes memory lane copies width → HasLanes (memory_moved memory at bit how) lane copies width
lanes-moved_anywhere memory at bit lane copies width how h = elim (cases_lt at (length memory)) [
  | inl there ↦ lanes-moved memory at bit lane copies width how there h
  | inr past ↦ let P : List (List Cell) → Type 0 = λ m. HasLanes m lane copies width in subst P (sym (set_past memory at _ past)) h
]

-- where a cursor's copy is after its access
inside-by : (r : RegisterAccessKind) (c : CursorState) (how : Move) → c.run ≡ r → c.reader + c.copy < c.copies → IsAtCopy c.run c.reader c.copy →
    ((after_by r c how).reader + (after_by r c how).copy < (after_by r c how).copies) × IsAtCopy (after_by r c how).run (after_by r c how).reader (after_by r c how).copy
inside-by Reads c how is inside at = (inside, at)
inside-by Writes c how is inside at =
    let P : RegisterAccessKind → Type 0 = λ r. IsAtCopy r c.reader c.copy in
    let first : c.reader ≡ 0 = subst P is at in
    let Q : RegisterAccessKind → Type 0 = λ r. IsAtCopy r c.reader (after_by Writes c how).copy in
    (omega (arith, first, copy_inside c.copies c.copy c.begun (omega (arith, first))), subst Q (sym is) first)
inside-by (Settles cut value) c how is inside at =
    let P : RegisterAccessKind → Type 0 = λ r. IsAtCopy r c.reader c.copy in
    let first : c.reader ≡ 0 = subst P is at in
    (omega (arith, first, copy_inside c.copies c.copy (ends_copy cut c) (omega (arith, first))), first)

-- its register is the same one
pub same-by : (r : RegisterAccessKind) (c : CursorState) (how : Move) → ((after_by r c how).register ≡ c.register) × ((after_by r c how).copies ≡ c.copies) × ((after_by r c how).width ≡ c.width)
same-by Reads c how = (refl, refl, refl)
same-by Writes c how = (refl, refl, refl)
same-by (Settles cut value) c how = (refl, refl, refl)

-- any cursor fits after an access as before
pub fits-moved : (d : CursorState) (memory : List (List Cell)) (at bit : ℕ) (how : Move) → Fits memory d → Fits (memory_moved memory at bit how) d
fits-moved d memory at bit how h = record {
  lanes = lanes-moved_anywhere memory at bit (lane_number d.copies d.register 0) d.copies d.width how h.lanes;
  copy = h.copy;
  at = h.at;
}

fits-after : (c : CursorState) (memory : List (List Cell)) (how : Move) → Fits memory c → Fits memory (cursor_after c how)
fits-after c memory how h =
    let same = same-by c.run c how in
    let inside = inside-by c.run c how refl h.copy h.at in
    let d : CursorState = cursor_after c how in
    let P : RegisterName → Type 0 = λ r. HasLanes memory (lane_number c.copies r 0) c.copies c.width in
    let Q : ℕ → Type 0 = λ n. HasLanes memory (lane_number n d.register 0) n c.width in
    let R : ℕ → Type 0 = λ w. HasLanes memory (lane_number d.copies d.register 0) d.copies w in
    record {
      lanes = subst R (sym same.2) (subst Q (sym same.1) (subst P (sym same.0) h.lanes));
      copy = inside.0;
      at = inside.1;
    }

-- a cursor fits the memory after its own accesses
pub run-fits : (k : ℕ) (now : CursorState × List (List Cell) × FlickState) → Fits now.1 now.0 → Fits (run_of k now).1 (run_of k now).0
run-fits zero now h = h
run-fits (suc k) now h =
    let c : CursorState = (run_of k now).0 in
    let memory : List (List Cell) = (run_of k now).1 in
    let flick : Bool = flick_of (run_of k now).2 in
    let a : Access = answered c.copies memory flick (next_access c flick) in
    fits-after c (memory_moved memory (lane_of_access c.copies a) a.bit a.how) a.how (fits-moved c memory (lane_of_access c.copies a) a.bit a.how (run-fits k now h))

-- any other cursor fits the memory after these accesses
pub run-keeps : (k : ℕ) (now : CursorState × List (List Cell) × FlickState) (d : CursorState) → Fits now.1 d → Fits (run_of k now).1 d
run-keeps zero now d h = h
run-keeps (suc k) now d h =
    let c : CursorState = (run_of k now).0 in
    let memory : List (List Cell) = (run_of k now).1 in
    let flick : Bool = flick_of (run_of k now).2 in
    let a : Access = answered c.copies memory flick (next_access c flick) in
    fits-moved d memory (lane_of_access c.copies a) a.bit a.how (run-keeps k now d h)

-- a read or a write has one access fewer left
run-by : (r : RegisterAccessKind) (c : CursorState) (how : Move) → is_settling r ≡ false → (after_by r c how).run ≡ c.run
run-by Reads c how plain = refl
run-by Writes c how plain = refl
run-by (Settles cut value) c how plain = absurd (cc)

rest-by : (r : RegisterAccessKind) (c : CursorState) (how : Move) → is_settling r ≡ false → c.reader + c.copy < c.copies → 0 < rest_by r c → rest_by r (after_by r c how) + 1 ≡ rest_by r c
rest-by Reads c how plain inside some = omega (arith, read-counts c (value_of how), some)
rest-by Writes c how plain inside some = omega (arith, write-counts c (omega (arith, inside)), some)
rest-by (Settles cut value) c how plain inside some = absurd (cc)

-- where accesses are left of it, bits are
rest-going : (r : RegisterAccessKind) (c : CursorState) → is_settling r ≡ false → 0 < rest_by r c → c.bit < c.width
rest-going Reads c plain some = omega (arith, some)
rest-going Writes c plain some = elim (cases_lt c.bit c.width) [
  | inl is ↦ is
  | inr past ↦ absurd (let more : c.copies * c.width ≤ c.copies * c.bit = mul-le-mul_left c.copies past in omega (arith, more, some))
]
rest-going (Settles cut value) c plain some = absurd (cc)

-- several accesses
record RunsOn (k : ℕ) (now : CursorState × List (List Cell) × FlickState) : Type 0 where
  plain : is_settling (run_of k now).0.run ≡ false
  rest : rest_of (run_of k now).0 + k ≡ rest_of now.0

runs-on : (k : ℕ) (now : CursorState × List (List Cell) × FlickState) → is_settling now.0.run ≡ false → Fits now.1 now.0 → k ≤ rest_of now.0 → RunsOn k now
runs-on zero now plain fits within = record { plain = plain; rest = omega arith }
runs-on (suc k) now plain fits within =
    let before : RunsOn k now = runs-on k now plain fits (omega (arith, within)) in
    let c : CursorState = (run_of k now).0 in
    let how : Move = (access_next (run_of k now)).how in
    let next : CursorState = cursor_after c how in
    let same : next.run ≡ c.run = run-by c.run c how before.plain in
    let one : rest_by c.run next + 1 ≡ rest_of c = rest-by c.run c how before.plain (run-fits k now fits).copy (omega (arith, before.rest, within)) in
    record { plain = ap is_settling same ∙ before.plain; rest = omega (arith, ap (λ r. rest_by r next) same, one, before.rest) }

-- the number of accesses made, and how many of them ended a read that a write overlapped
pub record HasRun (made overlapped : ℕ) (before now : CursorState × List (List Cell) × FlickState) : Type 0 where
  pub now_is : now ≡ run_of made before
  pub counts : overlapped ≡ overlapped_of made before

-- one of a read or a write may be made, where not all that are left have been
pub record MayStep (c : CursorState) (memory : List (List Cell)) : Type 0 where
  pub kind : is_settling c.run ≡ false
  pub going : c.bit < c.width
  pub fits : Fits memory c

pub may-step : (made overlapped : ℕ) (before : CursorState × List (List Cell) × FlickState) (c : CursorState) (memory : List (List Cell)) (flicks : FlickState) → is_settling before.0.run ≡ false → Fits before.1 before.0 → made < rest_of before.0 → HasRun made overlapped before (c, memory, flicks) → MayStep c memory
may-step made overlapped before c memory flicks plain fits less h =
    let on = runs-on made before plain fits (omega (arith, less)) in
    let rest = on.rest in
    let at : CursorState = (run_of made before).0 in
    let P : CursorState × List (List Cell) × FlickState → Type 0 = λ x. MayStep x.0 x.1 in
    subst P (sym h.now_is) (record { kind = on.plain; going = rest-going at.run at on.plain (omega (arith, rest, less)); fits = run-fits made before fits })

-- several more accesses
run-on : (k more made overlapped : ℕ) (before now after : CursorState × List (List Cell) × FlickState) → HasRun made overlapped before now → after ≡ run_of k now → more ≡ overlapped_of k now → HasRun (made + k) (overlapped + more) before after
run-on k more made overlapped before now after h after_is more_is = record {
  now_is = after_is ∙ ap (run_of k) h.now_is ∙ sym (run-more made k before);
  counts = (λ i. h.counts i + more_is i) ∙ ap (λ x. overlapped_of made before + overlapped_of k x) h.now_is ∙ sym (overlapped-more made k before);
}

-- one more access
pub step-on : (made overlapped : ℕ) (before : CursorState × List (List Cell) × FlickState) (c next : CursorState) (memory then : List (List Cell)) (flicks later : FlickState) (last : Bool) (a : Access) (byte : ℕ) → HasRun made overlapped before (c, memory, flicks) →
    a ≡ access_next (c, memory, flicks) → next ≡ cursor_after c a.how → then ≡ applied c.copies memory a → later ≡ after_flick flicks → last ≡ ends_overlapped c.copies memory a → byte ≡ bool_byte last → HasRun (made + 1) (overlapped + byte) before (next, then, later)
step-on made overlapped before c next memory then flicks later last a byte h is cursor_is memory_is flicks_are ends byte_is =
    run-on 1 byte made overlapped before (c, memory, flicks) (next, then, later) h
    ((λ i. (cursor_is i, memory_is i, flicks_are i)) ∙ ap (made_by c memory flicks) is)
    (byte_is ∙ byte-one last ∙ ap (λ b. 0 + cond b 1 0) (ends ∙ ap (ends_overlapped c.copies memory) is))

-- the last one is the newest
pub newest-last : (k steps : ℕ) (before now : CursorState × List (List Cell) × FlickState) → now ≡ run_of k before → steps ≡ k + 1 → access_next now ≡ newest_of steps before
newest-last k steps before now is last = ap access_next is ∙ ap (λ n. newest_of n before) (let e : suc k ≡ steps = omega arith in e)

-- words more
pub leads-on : (n made overlapped : ℕ) (before : CursorState × List (List Cell) × FlickState) (c d : CursorState) (memory now : List (List Cell)) (flicks later : FlickState) →
    HasRun made overlapped before (c, memory, flicks) → LeadsTo n c memory d now → later ≡ flicks_after n flicks → HasRun (made + n) overlapped before (d, now, later)
leads-on n made overlapped before c d memory now flicks later h leads later_is =
    let P : ℕ → Type 0 = λ k. HasRun (made + n) k before (d, now, later) in
    subst P (let e : overlapped + 0 ≡ overlapped = omega arith in e) (run-on n 0 made overlapped before (c, memory, flicks) (d, now, later) h ((λ i. (d, now, later_is i)) ∙ sym (leads.run flicks)) (sym (leads.none flicks)))
