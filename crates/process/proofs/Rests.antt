-- The number of accesses left, by the cursor.
use Rattle.std.proofs.Common.{◌≡◌, ℕ, ◌-◌, ◌*◌, ◌&&◌, Bool, true, false, cond, get_or, None, Some, sym, ap, ◌∙◌, arith, inl, inr}
use Rattle.std.proofs.Math.Nat.{mul-sub}
use Rattle.std.proofs.lemmas.Bool.{cases_eq, eq-eqb, ne_eqb}
use Rattle.model.specs.reader_copies.{Writing}
use Rattle.model.specs.{Call, Part, is_read, read_at, written_at}
use Rattle.model.specs.Places as places
use Rattle.registers.specs.{CursorState, IsAtPart, ReadsAt, WritesAt, bit_begun, is_fresh, made_of_bit, rest_by, run_at, run_by}
use Rattle.registers.specs.Cursors as cursors
use Rattle.registers.specs.declared.cursor.RegisterAccessKind.TheVariants.{Reads, Writes}
use Rattle.registers.proofs.CursorRuns.{Moves, moves}
use Rattle.process.specs.{is_reported, remaining_of, rest_of}

-- the accesses made of the present bit
begun-made : (made : ℕ) (value : Bool) → elim (bit_begun made value) as (λ _. ℕ) [ None ↦ 0 | Some bit ↦ bit.made ] ≡ made
begun-made made value = elim (cases_eq made 0) [
  | inl none ↦ ap (λ b. elim (cond b None (Some (bit value))) as (λ _. ℕ) [ None ↦ 0 | Some bit ↦ bit.made ]) (eq-eqb made 0 none) ∙ sym none
  | inr some ↦ ap (λ b. elim (cond b None (Some (bit value))) as (λ _. ℕ) [ None ↦ 0 | Some bit ↦ bit.made ]) (ne_eqb made 0 some)
]
  where
    bit : Bool → Writing
    bit v = record { value = v; made = made; ended = false }

rest-read : (c : Call) (part : Part) (cur : CursorState) → ReadsAt c.setup c.process (read_at c part) cur → rest_of c part (run_at cur) ≡ cursors.rest_of cur
rest-read c part cur at =
    ap (λ r. rest_of c part (run_by r cur)) at.run
    ∙ (let e : rest_of c part (places.Reading cur.bits cur.begun) ≡ rest_by Reads cur = omega (arith, at.wide, at.bits) in e)
    ∙ sym (ap (λ r. rest_by r cur) at.run)

rest-write : (c : Call) (part : Part) (cur : CursorState) → WritesAt c.setup c.process (written_at c part) cur → rest_of c part (run_at cur) ≡ cursors.rest_of cur
rest-write c part cur at =
    let n : ℕ = c.setup.processes in
    let made : elim (bit_begun (made_of_bit cur) (get_or cur.bits cur.bit false)) as (λ _. ℕ) [ None ↦ 0 | Some bit ↦ bit.made ] ≡ made_of_bit cur = begun-made (made_of_bit cur) (get_or cur.bits cur.bit false) in
    ap (λ r. rest_of c part (run_by r cur)) at.run
    ∙ ap (λ m. 2 * (n * (cur.width - cur.bit)) - m) made
    ∙ ap (λ k. 2 * (k * (cur.width - cur.bit)) - made_of_bit cur) (sym at.copies)
    ∙ (let e : 2 * (cur.copies * (cur.width - cur.bit)) - made_of_bit cur ≡ rest_by Writes cur = omega (arith, mul-sub cur.copies cur.width cur.bit) in e)
    ∙ sym (ap (λ r. rest_by r cur) at.run)

-- the number of accesses left is that of the cursor
pub rest-is : (c : Call) (part : Part) (cur : CursorState) → IsAtPart c part cur → rest_of c part (run_at cur) ≡ cursors.rest_of cur
rest-is c part cur at = by (is_read part) at
  where
    by : (b : Bool) → elim b as (λ _. Type 0) [ true ↦ ReadsAt c.setup c.process (read_at c part) cur | false ↦ WritesAt c.setup c.process (written_at c part) cur ] → rest_of c part (run_at cur) ≡ cursors.rest_of cur
    by true reads = rest-read c part cur reads
    by false writes = rest-write c part cur writes

-- the accesses before the last one
pub remaining-before : (c : Call) (part : Part) (cur : CursorState) → IsAtPart c part cur → (is_fresh cur && is_reported part) ≡ false → remaining_of c part (run_at cur) ≡ cursors.rest_of cur - 1
remaining-before c part cur at none =
    let m : Moves c part cur false = moves c part cur false at in
    ap (λ b. cond b 0 (rest_of c part (run_at cur) - 1)) (ap (λ b. b && is_reported part) m.fresh ∙ none)
    ∙ ap (λ n. n - 1) (rest-is c part cur at)
