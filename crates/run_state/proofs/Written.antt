-- The value that a process writes: its next access and its cursor belong to one write, and the value is the one that the write leaves.
use Rattle.std.proofs.Common.{◌≡◌, ℕ, suc, ◌+◌, ◌-◌, ◌*◌, ◌/◌, ◌%◌, ◌<◌, ◌≤◌, ◌==◌, ◌≢◌, ◌||◌, Bool, true, false, cond, List, [], ◌∷◌, ◌++◌, Option, None, Some, get_or, length, map, refl, sym, ap, subst, ◌∙◌, arith, eqb-true}
use Rattle.std.proofs.lemmas.Bool.{eqb-false}
use Rattle.std.proofs.lemmas.Bool.Decides.{nat_tests}
use Rattle.std.specs.Int.{is_in_range}
use Rattle.std.specs.List.{range_with_len}
use Rattle.std.specs.Prelude.{Ok, if◌then◌else◌, option_map}
use Rattle.plain_store.proofs.GoodSetups.{few-processes, good-checked}
use Rattle.plain_store.specs.{Setup, checked}
use Rattle.model.specs.safe_bit.declared.Move.TheVariants.{BeginRead, BeginWrite, EndRead, EndWrite, Settle}
use Rattle.model.specs.safe_bit.Cell.{Cell}
use Rattle.model.specs.safe_bit.{Move, is_end_of_read, is_end_of_write, read_value}
use Rattle.model.specs.{Access, Call, Entry, Event, Field, Past, Reading, Run, Writing, access_at, access_of, bit_written, copy, ended, ended_with, entry_of, moves_of, next_written, opening_bit, past_of, valued, width}
use Rattle.model.specs.Closings.{Withdraws, Settles, Frees, Lowers}
use Rattle.model.specs.declared.access.Field.TheVariants.{Choosing, Ticket, Commit, Stamp0, Stamp1, Image0, Image1}
use Rattle.model.specs.declared.events.Event.TheVariants.{Step}
use Rattle.model.proofs.Width.{IsGood, is_good}
use Rattle.calls.specs.world.laws.Writes.{WritesFitTheirRegister, WritesLeaveTheirBits}
use Rattle.calls.specs.world.laws.{Closes, CopiesHold, Doing, FitsItsRegister, HoldsBit, RegisterWrite, Runs, accesses_in_all, accesses_made, call, cell_held, doing, next_of, register_write, steps_alone, write_at, write_ended}
use Rattle.calls.proofs.world_proofs.laws_proofs.Steps.{StepIs, step_is}
use Rattle.calls.specs.world.process.declared.looks.Settling.{Settling as Torn}
use Rattle.calls.specs.world.process.{AccessProgress, progress, settling_of}
use Rattle.calls.specs.world.process.registers.{has_open_write, values_in}
use Rattle.run_state.specs.{ComesNext, access_in, bits_in_cells, bits_text, busy_lines, copy_text, process_line, read_progress, reads_words, settling_progress, shown, value_written, write_progress, writes_words}
use Rattle.calls.specs.world.process.RegisterProgress.{run_progress}
use Rattle.run_state.specs.Doing.{is_writing, one_if}

-- The next access.

some_access : (a b : Access) → Some a ≡ Some b → a ≡ b
some_access a b h = cc

-- how far a write is, by its cursor
abbrev pub cursor_progress : Setup → RegisterWrite → AccessProgress
cursor_progress s w = record { made = accesses_made s.processes w; all = accesses_in_all s.processes w }

-- the next access before the value of a read's end is known, and the progress: that of the write, or of a read where there is no write
abbrev IsNextOf : Setup → ℕ → Option AccessProgress → Option RegisterWrite → Access → Type 0
IsNextOf s p g None a = (is_writing a.how ≡ false) × (g ≡ Some (read_progress s a))
IsNextOf s p g (Some w) a = (a ≡ access_of p w.field (next_written w.bits w.run)) × (g ≡ Some (cursor_progress s w))

-- by what a process does that settles nothing
next_by : (s : Setup) (p : ℕ) (d : Doing) (a : Access) → settling_of d ≡ None → next_of s p d false ≡ Some a → IsNextOf s p (progress s p d) (register_write s p d) a
next_by s p (Runs command number at) a none h = go at.run h
  where
    c : Call
    c = call s p command number

    go : (run : Run) → Some (access_at c at.part run) ≡ Some a → IsNextOf s p (Some (run_progress c at.part run)) (write_at c at.part run) a
    go (Writing w) i = (sym (some_access _ a i), refl)
    go (Reading bits true) i = subst (IsNextOf s p (Some (run_progress c at.part (Reading bits true))) None) (some_access _ a i) (refl, refl)
    go (Reading bits false) i = subst (IsNextOf s p (Some (run_progress c at.part (Reading bits false))) None) (some_access _ a i) (refl, refl)
next_by s p (Closes command number (Withdraws w)) a none h = (sym (some_access _ a h), refl)
next_by s p (Closes command number (Frees inside w)) a none h = (sym (some_access _ a h), refl)
next_by s p (Closes command number (Lowers w)) a none h = (sym (some_access _ a h), refl)
next_by s p _ a none h = absurd (cc)

-- the value with which a read ends makes no difference
ended-same : (v : Bool) (m : Move) → (is_writing (ended v m) ≡ is_writing m) × (is_end_of_read (ended v m) ≡ is_end_of_read m)
ended-same v (BeginWrite w) = (refl, refl)
ended-same v EndWrite = (refl, refl)
ended-same v BeginRead = (refl, refl)
ended-same v (EndRead w) = (refl, refl)
ended-same v (Settle w) = (refl, refl)

-- an access of p within this write, of whose accesses those before it are made
pub record IsWithin (s : Setup) (p : ℕ) (a : Access) (w : RegisterWrite) : Type 0 where
  pub owner : a.owner ≡ p
  pub field : a.field ≡ w.field
  pub made : (write_progress s a).made ≡ accesses_made s.processes w
  pub writes : is_writing a.how ≡ true

next-within : (s : Setup) (p : ℕ) (v : Bool) (w : RegisterWrite) → IsWithin s p (ended_with v (access_of p w.field (next_written w.bits w.run))) w
next-within s p v w = let is = go (made % 2 == 0) refl in record { owner = refl; field = refl; made = is.0; writes = is.1 }
  where
    n : ℕ
    n = s.processes

    made : ℕ
    made = (bit_written w.bits w.run).made

    how : Bool → Move
    how b = ended v (if b then BeginWrite (bit_written w.bits w.run).value else EndWrite)

    go : (b : Bool) → (made % 2 == 0) ≡ b → (2 * (w.run.bit * n + made / 2) + one_if (is_end_of_write (how b)) ≡ 2 * (n * w.run.bit) + made) × (is_writing (how b) ≡ true)
    go true even = let none : made % 2 ≡ 0 = eqb-true (made % 2) 0 even in (omega (arith, none), refl)
    go false odd = let some : made % 2 ≢ 0 = eqb-false (made % 2) 0 odd in (omega (arith, some), refl)

-- the next access of p, where it settles nothing, and the progress: that of its write, or of its read where it makes no write
abbrev pub IsAccessOf : Setup → ℕ → Option AccessProgress → Access → Option RegisterWrite → Type 0
IsAccessOf s p g a None = (is_writing a.how ≡ false) × (g ≡ Some (read_progress s a))
IsAccessOf s p g a (Some w) = IsWithin s p a w × (g ≡ Some (cursor_progress s w))

-- the next access, by what p does
stepped : (s : Setup) → IsGood s → (events : List Event) (p : ℕ) (a : Access) → ComesNext s (past_of s events) p a → (x : Access) × (next_of s p (doing s p (past_of s events)) false ≡ Some x) × (valued s (past_of s events) false x ≡ a)
stepped s g events p a next = go (entry_of s (past_of s events) (Step p false)) refl next
  where
    go : (o : Option Entry) → entry_of s (past_of s events) (Step p false) ≡ o → access_in o ≡ Some a → (x : Access) × (next_of s p (doing s p (past_of s events)) false ≡ Some x) × (valued s (past_of s events) false x ≡ a)
    go None is h = absurd (cc)
    go (Some e) is h = let step : StepIs s (past_of s events) p false e = step_is s g events p false e is in (step.next, step.is_next, some_access _ a (sym step.access ∙ h))

-- in every record
pub access_of_write : (s : Setup) → IsGood s → (events : List Event) (p : ℕ) (a : Access) → ComesNext s (past_of s events) p a → settling_of (doing s p (past_of s events)) ≡ None →
    IsAccessOf s p (progress s p (doing s p (past_of s events))) a (register_write s p (doing s p (past_of s events)))
access_of_write s g events p a next none =
    let step = stepped s g events p a next in
    subst (λ x. IsAccessOf s p (progress s p d) x (register_write s p d)) step.2 (by step.0 (register_write s p d) (next_by s p d step.0 none step.1))
  where
    past : Past
    past = past_of s events

    d : Doing
    d = doing s p past

    by : (x : Access) (o : Option RegisterWrite) → IsNextOf s p (progress s p d) o x → IsAccessOf s p (progress s p d) (valued s past false x) o
    by x None h =
        let same = ended-same (read_value (opening_bit s x) (moves_of x past) false) x.how in
        (same.0 ∙ h.0, h.1 ∙ (λ i. Some (record { made = 2 * x.bit + one_if (sym same.1 i); all = 2 * width s x.field })))
    by x (Some w) h = (subst (λ y. IsWithin s p (valued s past false y) w) (sym h.0) (next-within s p (read_value (opening_bit s (of w)) (moves_of (of w) past) false) w), h.1)
      where
        of : RegisterWrite → Access
        of w = access_of p w.field (next_written w.bits w.run)

-- where it settles a bit
pub settling_is : (s : Setup) (p : ℕ) (d : Doing) (t : Torn) → settling_of d ≡ Some t → progress s p d ≡ Some (settling_progress s t)
settling_is s p (Closes command number (Settles f bit begun taken inside r)) t h = ap (option_map (settling_progress s)) h
settling_is s p _ t h = absurd (cc)

-- some access comes next of it
pub some_progress : (s : Setup) → IsGood s → (events : List Event) (p : ℕ) (a : Access) → ComesNext s (past_of s events) p a → progress s p (doing s p (past_of s events)) ≡ None → ⊥
some_progress s g events p a next gone = go (settling_of d) refl
  where
    d : Doing
    d = doing s p (past_of s events)

    by : (o : Option RegisterWrite) → IsAccessOf s p (progress s p d) a o → ⊥
    by None h = let two = sym h.1 ∙ gone in cc
    by (Some w) h = let two = sym h.1 ∙ gone in cc

    go : (o : Option Torn) → settling_of d ≡ o → ⊥
    go None none = by (register_write s p d) (access_of_write s g events p a next none)
    go (Some t) some = let two = sym (settling_is s p d t some) ∙ gone in cc

-- The value.

-- cells that hold these bits
cells-hold : (cell : ℕ → Cell) (bits : List Bool) (from : ℕ) → ((k : ℕ) → k < length bits → HoldsBit (cell (from + k)) (get_or bits k false)) →
    (has_open_write (map cell (range_with_len from (length bits))) ≡ false) × (values_in (map cell (range_with_len from (length bits))) ≡ bits)
cells-hold cell [] from hold = (refl, refl)
cells-hold cell (b ∷ bits) from hold =
    let here : from + 0 ≡ from = omega arith in
    let first : HoldsBit (cell from) b = subst (λ j. HoldsBit (cell j) b) here (hold 0 (omega arith)) in
    let rest = cells-hold cell bits (from + 1) (λ k below. let next : from + suc k ≡ from + 1 + k = omega arith in subst (λ j. HoldsBit (cell j) (get_or bits k false)) next (hold (suc k) (omega (arith, below)))) in
    ((λ i. first.closed i || rest.0 i), (λ i. first.value i ∷ rest.1 i))

-- a register whose first copy holds these bits shows them
copy-shown : (s : Setup) (past : Past) (p : ℕ) (field : Field) (bits : List Bool) → length bits ≡ width s field → 0 < s.processes → CopiesHold s past p field bits → copy_text s past p field 0 ≡ shown s field bits
copy-shown s past p field bits wide first hold =
    let cell : ℕ → Cell = λ k. cell_held s past (copy p field 0 k) in
    let held = cells-hold cell bits 0 (λ k below. let here : k ≡ 0 + k = omega arith in subst (λ j. HoldsBit (cell j) (get_or bits k false)) here (hold k 0 below first)) in
    ap (λ n. bits_text s field (bits_in_cells (map cell (range_with_len 0 n)))) (sym wide) ∙ (λ i. bits_text s field (cond (held.0 i) None (Some (held.1 i))))

-- the first copy once the remaining accesses are made, and how far the write is
value_is : WritesFitTheirRegister → WritesLeaveTheirBits → (s : Setup) → checked s ≡ Ok tt → (events : List Event) (p : ℕ) (a : Access) (w : RegisterWrite) → register_write s p (doing s p (past_of s events)) ≡ Some w → IsWithin s p a w →
    (length w.bits ≡ width s a.field) × (value_written s (past_of s events) p a ≡ shown s a.field w.bits) × ((write_progress s a).all ≡ accesses_in_all s.processes w)
value_is fitting leaves s good events p a w writes within =
    let past : Past = past_of s events in
    let n : ℕ = s.processes in
    let fits : FitsItsRegister s w = fitting s good events p w writes in
    let all : (write_progress s a).all ≡ accesses_in_all n w = ap (λ f. 2 * (n * width s f)) within.field ∙ ap (λ k. 2 * (n * k)) (sym fits.run) in
    let remaining : steps_alone s p ((write_progress s a).all - (write_progress s a).made) past ≡ write_ended s p w past = λ i. steps_alone s p (all i - within.made i) past in
    let first : 0 < n = omega (arith, (is_good s good).processes_is) in (
      fits.bits ∙ ap (width s) (sym within.field),
      (λ i. copy_text s (remaining i) (within.owner i) (within.field i) 0)
          ∙ copy-shown s (write_ended s p w past) p w.field w.bits fits.bits first (leaves s good events p w writes)
          ∙ ap (λ f. shown s f w.bits) (sym within.field),
      all,
    )

-- The line of what p reads or writes, by its progress and its write.
abbrev pub IsBusyWith : Setup → Past → ℕ → Access → ℕ → AccessProgress → Option RegisterWrite → Type 0
IsBusyWith s past p a n g None = busy_lines s past p a n None ≡ process_line p (reads_words a g n)
IsBusyWith s past p a n g (Some w) = (length w.bits ≡ width s a.field) × (busy_lines s past p a n None ≡ process_line p (writes_words a g ++ shown s a.field w.bits))

pub some_same : (a b : AccessProgress) → Some a ≡ Some b → a ≡ b
some_same a b h = cc

-- in every record, where it settles nothing
pub busy_with : WritesFitTheirRegister → WritesLeaveTheirBits → (s : Setup) → checked s ≡ Ok tt → (events : List Event) (p : ℕ) (a : Access) (n : ℕ) (g : AccessProgress) → ComesNext s (past_of s events) p a → settling_of (doing s p (past_of s events)) ≡ None →
    progress s p (doing s p (past_of s events)) ≡ Some g → IsBusyWith s (past_of s events) p a n g (register_write s p (doing s p (past_of s events)))
busy_with fits leaves s good events p a n g next none is = by (register_write s p d) refl (access_of_write s (is_good s good) events p a next none)
  where
    past : Past
    past = past_of s events

    d : Doing
    d = doing s p past

    line : Bool → List ℕ
    line b = process_line p (cond b (writes_words a (write_progress s a) ++ value_written s past p a) (reads_words a (read_progress s a) n))

    by : (o : Option RegisterWrite) → register_write s p d ≡ o → IsAccessOf s p (progress s p d) a o → IsBusyWith s past p a n g o
    by None i h = ap line h.0 ∙ ap (λ x. process_line p (reads_words a x n)) (some_same (read_progress s a) g (sym h.1 ∙ is))
    by (Some w) i h =
        let value = value_is fits leaves s good events p a w i h.0 in
        let far : write_progress s a ≡ cursor_progress s w = λ j. record { made = h.0.made j; all = value.2 j } in
        let same : write_progress s a ≡ g = far ∙ some_same (cursor_progress s w) g (sym h.1 ∙ is) in
        (value.0, ap line h.0.writes ∙ (λ j. process_line p (writes_words a (same j) ++ value.1 j)))

-- a register has at most 1,728 bits
pub width-most : (s : Setup) → checked s ≡ Ok tt → (field : Field) → width s field ≤ 1728
width-most s good = go
  where
    bits : (b : Bool) (n : ℕ) → is_in_range 1 (if b then 16 else 32) n ≡ true → n ≤ 1728
    bits true n h = grind (arith, nat_tests)
    bits false n h = grind (arith, nat_tests)

    slots : s.slots ≤ 8
    slots = let h = (good-checked s good).slots in grind (arith, nat_tests)

    callers : (b : Bool) → (if b then 0 else s.processes) ≤ 16
    callers true = omega arith
    callers false = few-processes s good

    go : (field : Field) → width s field ≤ 1728
    go Choosing = omega arith
    go Ticket = bits (s.version == 1) s.ticket_bits (good-checked s good).ticket_bits
    go Commit = omega arith
    go Stamp0 = bits (s.version == 1) s.stamp_bits (good-checked s good).stamp_bits
    go Stamp1 = bits (s.version == 1) s.stamp_bits (good-checked s good).stamp_bits
    go Image0 = let few = callers (s.version == 1) in omega (arith, slots, few)
    go Image1 = let few = callers (s.version == 1) in omega (arith, slots, few)
