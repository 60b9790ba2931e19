-- Once a process alone has made the accesses that its write still has, every copy of the register holds the bits that were being written.
use Rattle.std.proofs.Common.{◌≡◌, ℕ, zero, suc, ◌+◌, ◌-◌, ◌*◌, ◌<◌, ◌≤◌, ◌==◌, Bool, true, false, List, ◌∷◌, length, Some, refl, sym, ap, subst, ◌∙◌, arith, eqb-true, mul-le-mul_left}
use Rattle.std.proofs.Math.Nat.{mul-suc}
use Rattle.model.specs.safe_bit.Cell.{Cell}
use Rattle.model.specs.{Event, Past, bit_written, cell_after, copy, past_of, with_event}
use Rattle.model.specs.safe_bit.Cell.{without_read}
use Rattle.model.specs.declared.events.Event.TheVariants.{Step}
use Rattle.model.specs.safe_number.{NumberWrite}
use Rattle.plain_store.specs.{Setup}
use Rattle.model.proofs.Width.{IsGood, is_good}
use Rattle.laws.specs.{RegisterWrite, accesses_in_all, accesses_made, cell_held, doing, register_write, steps_alone, write_ended}
use Rattle.laws.specs.Writes.{WritesLeaveTheirBits}
use Rattle.laws.proofs.ClosingWrites.{WrittenSoFar, written_so_far}
use Rattle.laws.proofs.HeldCells.{held-is}
use Rattle.laws.proofs.Invariant.{Closed, Wires, bit, wires}
use Rattle.laws.proofs.WriteSteps.{StepsOn, ends_next, one_further, steps_on}
use Rattle.laws.proofs.Writing.{stays, turns}

-- The number of accesses made.

-- a write of these bits with this progress
abbrev come_to : RegisterWrite → NumberWrite → RegisterWrite
come_to w run = record { field = w.field; bits = w.bits; run = run }

-- a write that continues has an access to make
has_more : (s : Setup) (m : Wires) (w : RegisterWrite) → WrittenSoFar s m w → accesses_made s.processes w < accesses_in_all s.processes w
has_more s m w so_far =
    let n : ℕ = s.processes in
    let below : suc w.run.bit ≤ w.run.width = omega (arith, so_far.below) in
    let rows : n * suc w.run.bit ≤ n * w.run.width = mul-le-mul_left n below in
    let made : (bit_written w.bits w.run).made < 2 * n = so_far.made in
    omega (arith, made, rows, mul-suc n w.run.bit)

-- the next access is one more
one_more : (n : ℕ) (w : RegisterWrite) → accesses_made n (one_further n w) ≡ suc (accesses_made n w)
one_more n w = go (made + 1 == 2 * n) refl
  where
    made : ℕ
    made = (bit_written w.bits w.run).made

    go : (b : Bool) → (made + 1 == 2 * n) ≡ b → accesses_made n (one_further n w) ≡ suc (accesses_made n w)
    go false e =
        let next : 2 * (n * w.run.bit) + (made + 1) ≡ suc (2 * (n * w.run.bit) + made) = omega arith in
        ap (λ run. accesses_made n (come_to w run)) (stays n w.bits w.run e) ∙ next
    go true e =
        let full : made + 1 ≡ 2 * n = eqb-true (made + 1) (2 * n) e in
        let after : w.run.bit + 1 ≡ suc w.run.bit = omega arith in
        let row : n * (w.run.bit + 1) ≡ n * suc w.run.bit = ap (λ k. n * k) after in
        let next : 2 * (n * (w.run.bit + 1)) + 0 ≡ suc (2 * (n * w.run.bit) + made) = omega (arith, full, row, mul-suc n w.run.bit) in
        ap (λ run. accesses_made n (come_to w run)) (turns n w.bits w.run e) ∙ next

-- the number of all its accesses stays
as_many : (n : ℕ) (w : RegisterWrite) → accesses_in_all n (one_further n w) ≡ accesses_in_all n w
as_many n w = go ((bit_written w.bits w.run).made + 1 == 2 * n) refl
  where
    go : (b : Bool) → ((bit_written w.bits w.run).made + 1 == 2 * n) ≡ b → accesses_in_all n (one_further n w) ≡ accesses_in_all n w
    go false e = ap (λ run. accesses_in_all n (come_to w run)) (stays n w.bits w.run e)
    go true e = ap (λ run. accesses_in_all n (come_to w run)) (turns n w.bits w.run e)

-- if that access is the last one, all are made
all_made : (s : Setup) (m : Wires) (w : RegisterWrite) → WrittenSoFar s m w → ends_next s.processes w ≡ true → accesses_in_all s.processes w ≡ accesses_made s.processes (one_further s.processes w)
all_made s m w so_far ends = go ((bit_written w.bits w.run).made + 1 == 2 * n) refl
  where
    n : ℕ
    n = s.processes

    go : (b : Bool) → ((bit_written w.bits w.run).made + 1 == 2 * n) ≡ b → accesses_in_all n w ≡ accesses_made n (one_further n w)
    go false e =
        let below : w.run.bit < w.run.width = so_far.below in
        let same : w.run.bit ≡ w.run.width = eqb-true w.run.bit w.run.width (ap (λ (y : NumberWrite). y.bit == w.run.width) (sym (stays n w.bits w.run e)) ∙ ends) in
        absurd (omega (arith, below, same))
    go true e =
        let last : w.run.bit + 1 ≡ w.run.width = eqb-true (w.run.bit + 1) w.run.width (ap (λ (y : NumberWrite). y.bit == w.run.width) (sym (turns n w.bits w.run e)) ∙ ends) in
        let row : n * (w.run.bit + 1) ≡ n * w.run.width = ap (λ k. n * k) last in
        let all : 2 * (n * w.run.width) ≡ 2 * (n * (w.run.bit + 1)) + 0 = omega (arith, row) in
        all ∙ sym (ap (λ run. accesses_made n (come_to w run)) (turns n w.bits w.run e))

-- Steps alone.

steps_first : (s : Setup) (p n : ℕ) (past : Past) → steps_alone s p (suc n) past ≡ steps_alone s p n (with_event s (Step p false) past)
steps_first s p zero past = refl
steps_first s p (suc n) past = ap (with_event s (Step p false)) (steps_first s p n past)

-- every copy of the register holds the bits
abbrev Finished : Setup → Past → ℕ → RegisterWrite → Type 0
Finished s past p w = (k r : ℕ) → k < length w.bits → r < s.processes → Closed (wires s past p w.field k r) (bit w.bits k)

-- the bits are held after this number of Steps, if the write has this number of accesses left
abbrev Finishes : Setup → ℕ → Type 0
Finishes s remaining = (events : List Event) (p : ℕ) (w : RegisterWrite) → register_write s p (doing s p (past_of s events)) ≡ Some w → accesses_in_all s.processes w ≡ remaining + accesses_made s.processes w →
    Finished s (steps_alone s p remaining (past_of s events)) p w

finishes_after : (s : Setup) → IsGood s → (remaining : ℕ) → Finishes s remaining → Finishes s (suc remaining)
finishes_after s g remaining finishes events p w h all = subst (λ x. Finished s x p w) (sym (steps_first s p remaining (past_of s events))) (go (ends_next n w) refl)
  where
    n : ℕ
    n = s.processes

    then : List Event
    then = Step p false ∷ events

    step : StepsOn s events p w
    step = steps_on s g events p w h

    go : (b : Bool) → ends_next n w ≡ b → Finished s (steps_alone s p remaining (past_of s then)) p w
    go true ends =
        let whole : accesses_in_all n w ≡ accesses_made n (one_further n w) = all_made s (wires s (past_of s events) p) w (written_so_far s g events p w h) ends in
        let none : remaining ≡ 0 = omega (arith, all, whole, one_more n w) in
        subst (λ k. Finished s (steps_alone s p k (past_of s then)) p w) (sym none) (step.advanced.all ends)
    go false more = finishes then p (one_further n w) (step.goes_on more) (omega (arith, all, one_more n w, as_many n w))

finishes : (s : Setup) → IsGood s → (remaining : ℕ) → Finishes s remaining
finishes s g zero = λ events p w h all. absurd (omega (arith, all, has_more s (wires s (past_of s events) p) w (written_so_far s g events p w h)))
finishes s g (suc remaining) = finishes_after s g remaining (finishes s g remaining)

-- in every record: a write leaves its bits
pub writes_leave : WritesLeaveTheirBits
writes_leave s good events p w h k r low below = record {
  closed = ap (λ (c : Cell). c.writing) held ∙ whole.writing;
  value = ap (λ (c : Cell). c.value) held ∙ whole.value;
}
  where
    g : IsGood s
    g = is_good s good

    n : ℕ
    n = s.processes

    then : Past
    then = write_ended s p w (past_of s events)

    remaining : accesses_in_all n w ≡ (accesses_in_all n w - accesses_made n w) + accesses_made n w
    remaining = omega (arith, has_more s (wires s (past_of s events) p) w (written_so_far s g events p w h))

    whole : Closed (wires s then p w.field k r) (bit w.bits k)
    whole = finishes s g (accesses_in_all n w - accesses_made n w) events p w h remaining k r low below

    held : without_read (cell_held s then (copy p w.field r k)) ≡ without_read (cell_after s then (copy p w.field r k))
    held = held-is s then (copy p w.field r k)
