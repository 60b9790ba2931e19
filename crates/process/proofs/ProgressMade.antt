-- The progress of a process is that of its cursor.
use Rattle.std.proofs.Common.{◌≡◌, ℕ, ◌+◌, ◌*◌, Bool, true, false, cond, List, Option, None, Some, refl, sym, ap, ◌∙◌, arith, inl, inr, unwrap_or}
use Rattle.std.proofs.lemmas.Bool.{cases_eq, eq-eqb, ne_eqb}
use Rattle.plain_store.specs.{Reply, Setup}
use Rattle.registers.specs.reader_copies.Runs as copies
use Rattle.model.specs.{Call, Field, Part, bit_written, is_read, read_at, written_at}
use Rattle.laws.specs.{Closes, Doing, Lies, Rests, Runs}
use Rattle.registers.specs.{CursorState, RegisterAccessKind, ReadsAt, WritesAt, bit_begun, made_of_bit, made_of_write, run_at, run_by, write_kept}
use Rattle.registers.specs.Progress as registers
use Rattle.process.specs.declared.looks.AccessProgress.{AccessProgress}
use Rattle.process.specs.{KeepsPlace, PartState, Activity, SettlesAt, doing_at, may_step, progress, reply_taken, settling_at}
use Rattle.process.specs.RegisterProgress.{closing_progress, run_progress, write_progress}
use Rattle.process.specs.declared.activity.Activity.TheVariants as work

-- the progress of a cursor
abbrev pub cursor_progress : CursorState → AccessProgress
cursor_progress cur = record { made = registers.accesses_made cur; all = registers.accesses_in_all cur }

abbrev progress_by : RegisterAccessKind → CursorState → AccessProgress
progress_by r cur = record { made = registers.made_by_run r cur; all = registers.all_by_run r cur }

-- the accesses made of the present bit of a write
bit-made : (made : ℕ) (value other : Bool) → (unwrap_or (bit_begun made value) (let none : copies.Writing = record { value = other; made = 0; ended = false } in none)).made ≡ made
bit-made made value other = elim (cases_eq made 0) [
  | inl none ↦ ap (λ b. (unwrap_or (cond b None (Some (let some : copies.Writing = record { value = value; made = made; ended = false } in some))) (let none : copies.Writing = record { value = other; made = 0; ended = false } in none)).made) (eq-eqb made 0 none) ∙ sym none
  | inr some ↦ ap (λ b. (unwrap_or (cond b None (Some (let some : copies.Writing = record { value = value; made = made; ended = false } in some))) (let none : copies.Writing = record { value = other; made = 0; ended = false } in none)).made) (ne_eqb made 0 some)
]

writes-far : (s : Setup) (p : ℕ) (written : Field × List Bool) (cur : CursorState) → WritesAt s p written cur →
    cursor_progress cur ≡ write_progress s.processes (record { field = written.0; bits = written.1; run = write_kept cur })
writes-far s p written cur at =
    let bit : (bit_written written.1 (write_kept cur)).made ≡ made_of_bit cur = bit-made (made_of_bit cur) _ _ in
    let made : made_of_write cur ≡ 2 * (cur.copies * cur.bit) + (bit_written written.1 (write_kept cur)).made = omega (arith, bit) in
    ap (λ (r : RegisterAccessKind). progress_by r cur) at.run
    ∙ (λ i. let x : AccessProgress = record { made = made i; all = 2 * (cur.copies * cur.width) } in x)
    ∙ ap (λ (n : ℕ). let x : AccessProgress = record { made = 2 * (n * cur.bit) + (bit_written written.1 (write_kept cur)).made; all = 2 * (n * cur.width) } in x) at.copies

part-far : (c : Call) (part : Part) (cur : CursorState) (b : Bool) →
    elim b as (λ _. Type 0) [ true ↦ ReadsAt c.setup c.process (read_at c part) cur | false ↦ WritesAt c.setup c.process (written_at c part) cur ] → cursor_progress cur ≡ run_progress c part (run_at cur)
part-far c part cur true at =
    ap (λ (r : RegisterAccessKind). progress_by r cur) at.run
    ∙ (λ i. let x : AccessProgress = record { made = 2 * sym at.bits i + cond cur.begun 1 0; all = 2 * at.wide i } in x)
    ∙ sym (ap (λ (r : RegisterAccessKind). run_progress c part (run_by r cur)) at.run)
part-far c part cur false at = writes-far c.setup c.process (written_at c part) cur at ∙ sym (ap (λ (r : RegisterAccessKind). run_progress c part (run_by r cur)) at.run)

settles-far : (k : PartState) (inside : Bool) (taken : Option (Bool × Reply)) (cur : CursorState) → SettlesAt k.call.setup k.call.process taken cur →
    Some (cursor_progress cur) ≡ closing_progress k.call (settling_at cur.run inside (reply_taken taken) cur)
settles-far k inside taken cur at =
    ap (λ (r : RegisterAccessKind). Some (progress_by r cur)) at.run
    ∙ ap (λ (n : ℕ). Some (let x : AccessProgress = record { made = registers.made_of_settling at.cut cur.copy cur.begun; all = registers.settling_in_all at.cut n } in x)) at.copies
    ∙ sym (ap (λ (r : RegisterAccessKind). closing_progress k.call (settling_at r inside (reply_taken taken) cur)) at.run)

pub far : (k : PartState) (w : Activity) (cur : CursorState) → KeepsPlace k w cur → may_step (doing_at k w cur) ≡ true → Some (cursor_progress cur) ≡ progress k.call.setup k.call.process (doing_at k w cur)
far k work.Rests cur keeps goes = cc
far k work.Lies cur keeps goes = cc
far k work.Runs cur keeps goes = ap Some (part-far k.call k.part cur (is_read k.part) keeps.working.at)
far k work.Withdraws cur keeps goes = ap Some (writes-far k.call.setup k.call.process _ cur keeps.working)
far k (work.Settles inside taken) cur keeps goes = settles-far k inside taken cur keeps.working
far k (work.Frees inside) cur keeps goes = ap Some (writes-far k.call.setup k.call.process _ cur keeps.working)
far k work.Lowers cur keeps goes = ap Some (writes-far k.call.setup k.call.process _ cur keeps.working)

pub none-far : (s : Setup) (p : ℕ) (d : Doing) → may_step d ≡ false → None ≡ progress s p d
none-far s p Rests rests = refl
none-far s p Lies rests = refl
none-far s p (Runs command number at) rests = cc
none-far s p (Closes command number at) rests = cc
