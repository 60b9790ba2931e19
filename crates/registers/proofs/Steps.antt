-- The invariants of one access, and the progress of its register access.
use Rattle.std.proofs.Common.{◌≡◌, ℕ, suc, ◌+◌, ◌*◌, ◌<◌, ◌==◌, ◌&&◌, Bool, true, false, not, cond, add-one, List, [], set, length, sym, ◌∙◌, arith, ap, subst, inl, inr}
use Rattle.std.proofs.Math.Nat.{mul-suc}
use Rattle.std.proofs.lemmas.Bool.{cases_eq, eq-eqb, ne_eqb}
use Rattle.std.proofs.lemmas.List.{get_or-set_same, get_or-set_other, length-set}
use Rattle.safe_bit.specs.Cell.{Cell}
use Rattle.safe_bit.specs.{Move}
use Rattle.registers.specs.{CursorState, HasLanes, lane_of, made_of_read, made_of_write, memory_moved, read_after, write_after}

-- a changed lane of its old length leaves all lanes as long as they were
pub length-lane : (memory : List (List Cell)) (lane l : ℕ) (new : List Cell) → length new ≡ length (lane_of memory lane) → lane < length memory → length (lane_of (set memory lane new) l) ≡ length (lane_of memory l)
length-lane memory lane l new same there = elim (cases_eq l lane) [
  | inl e ↦ ap (λ i. length (lane_of (set memory lane new) i)) e ∙ ap length (get_or-set_same memory lane new [] there) ∙ same ∙ ap (λ i. length (lane_of memory i)) (sym e)
  | inr e ↦ ap length (get_or-set_other memory lane l new [] e)
]

pub lanes-set : (memory : List (List Cell)) (at lane copies width : ℕ) (new : List Cell) → length new ≡ length (lane_of memory at) → at < length memory → HasLanes memory lane copies width → HasLanes (set memory at new) lane copies width
lanes-set memory at lane copies width new same there h = record {
  lanes = omega (arith, length-set memory at new, h.lanes);
  wide = λ l from below. omega (arith, length-lane memory at l new same there, h.wide l from below);
}

pub lanes-moved : (memory : List (List Cell)) (at bit lane copies width : ℕ) (how : Move) → at < length memory → HasLanes memory lane copies width → HasLanes (memory_moved memory at bit how) lane copies width
lanes-moved memory at bit lane copies width how there h = lanes-set memory at lane copies width _ (length-set (lane_of memory at) bit _) there h

read_counts : (bit : ℕ) (begun : Bool) → 2 * cond begun (bit + 1) bit + cond (not begun) 1 0 ≡ suc (2 * bit + cond begun 1 0)
read_counts bit true = omega arith
read_counts bit false = omega arith

-- an access is one more
pub read-counts : (r : CursorState) (v : Bool) → made_of_read (read_after r v) ≡ suc (made_of_read r)
read-counts r v = read_counts r.bit r.begun

write_counts : (copies bit copy : ℕ) (begun : Bool) → copy < copies → let ends = begun && (copy + 1 == copies) in 2 * (copies * cond ends (bit + 1) bit + cond ends 0 (cond begun (copy + 1) copy)) + cond (not begun) 1 0 ≡ suc (2 * (copies * bit + copy) + cond begun 1 0)
write_counts copies bit copy false h = omega arith
write_counts copies bit copy true h = elim (cases_eq (copy + 1) copies) [
  | inl e ↦ ap (λ b. 2 * (copies * cond b (bit + 1) bit + cond b 0 (copy + 1)) + 0) (eq-eqb (copy + 1) copies e) ∙ omega (arith, mul-suc copies bit, add-one bit)
  | inr e ↦ ap (λ b. 2 * (copies * cond b (bit + 1) bit + cond b 0 (copy + 1)) + 0) (ne_eqb (copy + 1) copies e) ∙ omega arith
]

pub write-counts : (w : CursorState) → w.copy < w.copies → made_of_write (write_after w) ≡ suc (made_of_write w)
write-counts w h = write_counts w.copies w.bit w.copy w.begun h

pub copy_inside : (copies copy : ℕ) (begun : Bool) → copy < copies → let ends = begun && (copy + 1 == copies) in cond ends 0 (cond begun (copy + 1) copy) < copies
copy_inside copies copy false h = h
copy_inside copies copy true h = elim (cases_eq (copy + 1) copies) [
  | inl e ↦ let P : Bool → Type 0 = λ b. cond b 0 (copy + 1) < copies in subst P (sym (eq-eqb (copy + 1) copies e)) (omega arith)
  | inr e ↦ let P : Bool → Type 0 = λ b. cond b 0 (copy + 1) < copies in subst P (sym (ne_eqb (copy + 1) copies e)) (omega arith)
]
