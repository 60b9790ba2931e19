-- A cursor advances as the register access of a script does.
use Rattle.std.proofs.Common.{◌≡◌, ◌≢◌, ℕ, ◌+◌, ◌*◌, ◌/◌, ◌%◌, ◌<◌, ◌==◌, ◌&&◌, Bool, true, false, not, cond, List, get_or, Option, None, Some, unwrap_or, sym, ◌∙◌, arith, ap, inl, inr}
use Rattle.std.proofs.lemmas.Bool.{cases_eq, eq-eqb, ne_eqb}
use Rattle.safe_bit.specs.declared.moves.Move.TheVariants.{BeginWrite, EndWrite}
use Rattle.reader_copies.specs.Runs as copies
use Rattle.safe_number.specs.{NumberWrite, write_on}
use Rattle.model.specs.{bit_written, next_written, write_moved}
use Rattle.registers.specs.{CursorState, bit_begun, made_of_bit, write_after, write_kept, write_move}

abbrev writing : Bool → ℕ → copies.Writing
writing value made = record { value = value; made = made; ended = false }

-- a write that has made n accesses, also if n is 0
begun-or : (made : ℕ) (value : Bool) → unwrap_or (bit_begun made value) (writing value 0) ≡ writing value made
begun-or made value = elim (cases_eq made 0) [
  | inl e ↦ ap (λ b. unwrap_or (cond b None (Some (writing value made))) (writing value 0)) (eq-eqb made 0 e) ∙ ap (writing value) (sym e)
  | inr e ↦ ap (λ b. unwrap_or (cond b None (Some (writing value made))) (writing value 0)) (ne_eqb made 0 e)
]

pub bit-kept : (c : CursorState) → bit_written c.bits (write_kept c) ≡ writing (get_or c.bits c.bit false) (made_of_bit c)
bit-kept c = begun-or (made_of_bit c) (get_or c.bits c.bit false)

abbrev made_at : ℕ → Bool → ℕ
made_at copy begun = 2 * copy + cond begun 1 0

copy-of : (copy : ℕ) (begun : Bool) → made_at copy begun / 2 ≡ copy
copy-of copy true = omega arith
copy-of copy false = omega arith

move-of : (copy : ℕ) (begun v : Bool) → cond (made_at copy begun % 2 == 0) (BeginWrite v) EndWrite ≡ cond begun EndWrite (BeginWrite v)
move-of copy true v = ap (λ b. cond b (BeginWrite v) EndWrite) (ne_eqb (made_at copy true % 2) 0 (omega arith))
move-of copy false v = ap (λ b. cond b (BeginWrite v) EndWrite) (eq-eqb (made_at copy false % 2) 0 (omega arith))

-- the next access is the one of the script
pub next-kept : (c : CursorState) → next_written c.bits (write_kept c) ≡ (c.bit, record { reader = c.copy; how = write_move c })
next-kept c =
    let v : Bool = get_or c.bits c.bit false in
    ap (λ (w : copies.Writing). (c.bit, copies.next_write w)) (bit-kept c)
    ∙ (λ i. (c.bit, record { reader = copy-of c.copy c.begun i; how = move-of c.copy c.begun v i }))

-- a write of the bit that has begun
kept-begun : (made : ℕ) (v : Bool) → made ≢ 0 → bit_begun made v ≡ Some (writing v made)
kept-begun made v some = ap (λ b. cond b None (Some (writing v made))) (ne_eqb made 0 some)

abbrev after : ℕ → ℕ → Bool → ℕ → Bool → NumberWrite
after width bit v made ended = cond ended (record { width = width; bit = bit + 1; run = None }) (record { width = width; bit = bit; run = Some (record { value = v; made = made + 1; ended = ended }) })

abbrev kept : ℕ → ℕ → Option copies.Writing → NumberWrite
kept width bit run = record { width = width; bit = bit; run = run }

moved : (width bit copy n : ℕ) (bits : List Bool) (begun : Bool) → copy < n →
    after width bit (get_or bits bit false) (made_at copy begun) (made_at copy begun + 1 == 2 * n)
    ≡ (let ends : Bool = begun && (copy + 1 == n) in kept width (cond ends (bit + 1) bit) (bit_begun (2 * cond ends 0 (cond begun (copy + 1) copy) + cond (not begun) 1 0) (get_or bits (cond ends (bit + 1) bit) false)))
moved width bit copy n bits false inside =
    let v : Bool = get_or bits bit false in
    ap (after width bit v (made_at copy false)) (ne_eqb (made_at copy false + 1) (2 * n) (omega arith))
    ∙ ap (λ m. kept width bit (Some (writing v m))) (let e : made_at copy false + 1 ≡ 2 * copy + 1 = omega arith in e)
    ∙ ap (kept width bit) (sym (kept-begun (2 * copy + 1) v (omega arith)))
moved width bit copy n bits true inside = elim (cases_eq (copy + 1) n) [
  | inl e ↦
      ap (after width bit (get_or bits bit false) (made_at copy true)) (eq-eqb (made_at copy true + 1) (2 * n) (omega arith))
      ∙ sym (ap (λ b. kept width (cond b (bit + 1) bit) (bit_begun (2 * cond b 0 (copy + 1) + 0) (get_or bits (cond b (bit + 1) bit) false))) (eq-eqb (copy + 1) n e))
  | inr e ↦
      let v : Bool = get_or bits bit false in
      ap (after width bit v (made_at copy true)) (ne_eqb (made_at copy true + 1) (2 * n) (omega arith))
      ∙ ap (λ m. kept width bit (Some (writing v m))) (let f : made_at copy true + 1 ≡ 2 * (copy + 1) + 0 = omega arith in f)
      ∙ ap (kept width bit) (sym (kept-begun (2 * (copy + 1) + 0) v (omega arith)))
      ∙ sym (ap (λ b. kept width (cond b (bit + 1) bit) (bit_begun (2 * cond b 0 (copy + 1) + 0) (get_or bits (cond b (bit + 1) bit) false))) (ne_eqb (copy + 1) n e))
]

-- it reaches the position of the script
pub write-kept : (c : CursorState) → c.copy < c.copies → write_moved c.copies c.bits (write_kept c) ≡ write_kept (write_after c)
write-kept c inside =
    ap (λ (w : copies.Writing). write_on (write_kept c) (copies.write_after c.copies w)) (bit-kept c)
    ∙ moved c.width c.bit c.copy c.copies c.bits c.begun inside
