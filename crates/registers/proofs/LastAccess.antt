-- After a cursor has made its next access, this access is its last one.
use Rattle.std.proofs.Common.{◌≡◌, ◌+◌, ◌-◌, ◌==◌, ◌&&◌, Bool, true, false, cond, not, List, [], ◌∷◌, ◌++◌, get_or, length, None, Some, refl, sym, ap, ◌∙◌, arith, eqb-true}
use Rattle.std.proofs.lemmas.Bool.{ne_eqb}
use Rattle.std.proofs.lemmas.List.{get_or_push}
use Rattle.safe_bit.specs.declared.moves.Move.TheVariants.{BeginWrite, EndWrite, EndRead}
use Rattle.model.specs.{Call, value_of}
use Rattle.model.specs.Parts.{Part, is_read, read_at, written_at}
use Rattle.registers.specs.{CursorState, IsAtPart, RegisterAccessKind, ReadsAt, WritesAt, access_on, last_access, last_by_run, last_read, last_write, move_by, moved, next_access, read_after, read_move, write_after}
use Rattle.registers.specs.Accesses.{access_with}
use Rattle.registers.proofs.CursorRuns.{read-moved, write-moved}

-- a read, by whether the present bit has begun
read-last : (cur : CursorState) (b v : Bool) → length cur.bits ≡ cur.bit →
    last_read (record cur { bit = cond b (cur.bit + 1) cur.bit; begun = not b; bits = cond b (cur.bits ++ value_of (read_move b v) ∷ []) cur.bits }) ≡ Some (access_with cur (read_move b v))
read-last cur false v long = refl
read-last cur true v long =
    let bits : List Bool = cur.bits ++ v ∷ [] in
    let before : cur.bit + 1 - 1 ≡ cur.bit = omega arith in
    let bit : get_or bits (cur.bit + 1 - 1) false ≡ v = ap (λ k. get_or bits k false) before ∙ get_or_push cur.bits v false cur.bit long in
    ap (λ b. cond b None (Some (access_on cur (cur.bit + 1 - 1) cur.copy (EndRead (get_or bits (cur.bit + 1 - 1) false))))) (ne_eqb (cur.bit + 1) 0 (omega arith))
    ∙ (λ i. Some (access_on cur (before i) cur.copy (EndRead (bit i))))

-- a write, by whether the present copy has begun, and whether it is the last one
write-last : (cur : CursorState) (b e : Bool) → (cur.copy + 1 == cur.copies) ≡ e →
    last_write (record cur { bit = cond (b && e) (cur.bit + 1) cur.bit; copy = cond (b && e) 0 (cond b (cur.copy + 1) cur.copy); begun = not b }) ≡ Some (access_with cur (cond b EndWrite (BeginWrite (get_or cur.bits cur.bit false))))
write-last cur false e last = refl
write-last cur true true last =
    let all : cur.copy + 1 ≡ cur.copies = eqb-true (cur.copy + 1) cur.copies last in
    let bit : cur.bit + 1 - 1 ≡ cur.bit = omega arith in
    let copy : cur.copies - 1 ≡ cur.copy = omega (arith, all) in
    ap (λ b. cond b None (Some (access_on cur (cur.bit + 1 - 1) (cur.copies - 1) EndWrite))) (ne_eqb (cur.bit + 1) 0 (omega arith))
    ∙ (λ i. Some (access_on cur (bit i) (copy i) EndWrite))
write-last cur true false last =
    let copy : cur.copy + 1 - 1 ≡ cur.copy = omega arith in
    ap (λ b. cond (not b) (Some (access_on cur cur.bit (cur.copy + 1 - 1) EndWrite)) (cond (cur.bit == 0) None (Some (access_on cur (cur.bit - 1) (cur.copies - 1) EndWrite)))) (ne_eqb (cur.copy + 1) 0 (omega arith))
    ∙ (λ i. Some (access_on cur cur.bit (copy i) EndWrite))

part-last : (c : Call) (part : Part) (cur : CursorState) (v b : Bool) →
    elim b as (λ _. Type 0) [ true ↦ ReadsAt c.setup c.process (read_at c part) cur | false ↦ WritesAt c.setup c.process (written_at c part) cur ] → last_access (moved cur v) ≡ Some (next_access cur v)
part-last c part cur v true at =
    ap last_access (read-moved c.setup c.process (read_at c part) cur v at)
    ∙ ap (λ (r : RegisterAccessKind). last_by_run r (read_after cur (value_of (read_move cur.begun v)))) at.run
    ∙ read-last cur cur.begun v at.bits
    ∙ sym (ap (λ (r : RegisterAccessKind). Some (access_with cur (move_by r cur v))) at.run)
part-last c part cur v false at =
    ap last_access (write-moved c.setup c.process (written_at c part) cur v at)
    ∙ ap (λ (r : RegisterAccessKind). last_by_run r (write_after cur)) at.run
    ∙ write-last cur cur.begun (cur.copy + 1 == cur.copies) refl
    ∙ sym (ap (λ (r : RegisterAccessKind). Some (access_with cur (move_by r cur v))) at.run)

pub last-made : (c : Call) (part : Part) (cur : CursorState) (v : Bool) → IsAtPart c part cur → last_access (moved cur v) ≡ Some (next_access cur v)
last-made c part cur v at = part-last c part cur v (is_read part) at
