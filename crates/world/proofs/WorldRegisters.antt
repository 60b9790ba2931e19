-- The registers after a past. Each access may be made on them, with the values of the safe rule, and an entry changes them to the registers after the entry.
use Rattle.std.proofs.Common.{◌≡◌, ◌≢◌, ℕ, ◌<◌, ◌==◌, ◌&&◌, Bool, true, false, cond, List, ◌∷◌, Option, Some, None, Ok, refl, sym, ap, ◌∙◌, eqb-true, eq-eqb, ne_eqb}
use Rattle.std.proofs.lemmas.Bool.{eqb-false}
use Rattle.model.specs.safe_bit.Cell.{Cell, read_answer}
use Rattle.model.specs.safe_bit.Cell as cell
use Rattle.model.specs.{Access, Call, Entry, Event, Field, Part, Past, Reading, Run, Writing, access_at, ended_with, entry_of, field_number, own, past_of, read_at, valued}
use Rattle.plain_store.specs.{Command, Setup, checked}
use Rattle.model.proofs.Width.{IsGood, is_good}
use Rattle.laws.specs.{Closes, Doing, IsThere, Lies, Rests, Runs, call, cell_held, doing, drops, reads_of}
use Rattle.laws.proofs.AtPlaces.{AtPlace}
use Rattle.laws.proofs.FrameCells.{OnCopy, on-copy}
use Rattle.laws.proofs.FrameCuts.{LeftIn, LeftRun, remaining}
use Rattle.laws.proofs.FrameEvents.{accepted}
use Rattle.laws.proofs.FrameSteps.{remaining-is}
use Rattle.laws.proofs.HeldCells.{held-entry, held-marks, held_answers}
use Rattle.laws.proofs.HeldOwners.{OwnersAt, owner-there, owners_there}
use Rattle.laws.proofs.HeldReads.{open_read, reads_are, reads_now}
use Rattle.process.specs.registers.{AreOf, answered, applied, lane_number, without_reads}
use Rattle.process.specs.{cells_after, cells_dropped, dropped, memory_with, process_after}
use Rattle.process.proofs.Memories.{with-are, with-cell, with-same}
use Rattle.process.proofs.MemoriesMoved.{with-applied, with-dropped}

-- the registers after a past
abbrev pub registers_at : Setup → Past → List (List Cell)
registers_at s past = memory_with (cell_held s past) s

-- they are those of the setup
pub are_of : (s : Setup) (past : Past) → AreOf s (registers_at s past)
are_of s past = with-are (cell_held s past) s

-- The value of an access to the registers.
pub answers : (s : Setup) → checked s ≡ Ok tt → (events : List Event) (flick : Bool) (a : Access) → IsThere s a →
    answered s.processes (registers_at s (past_of s events)) flick a ≡ valued s (past_of s events) flick a
answers s ok events flick a there =
    let past : Past = past_of s events in
    ap (λ c. ended_with (read_answer c flick) a) (with-cell (cell_held s past) s a (λ a how. refl) there)
    ∙ ap (λ v. ended_with v a) (held_answers s (is_good s ok) events a flick)

-- The registers after an access.
pub registers-made : (s : Setup) (past : Past) (e : Entry) (a : Access) → e.access ≡ Some a → IsThere s a → applied s.processes (registers_at s past) a ≡ registers_at s (e ∷ past)
registers-made s past e a acc there =
    with-applied (cell_held s past) s a there
    ∙ with-same (cells_after (cell_held s past) a) (cell_held s (e ∷ past)) s (λ x there. sym (held-entry s past e a x acc))

-- After an entry that only marks, and drops nothing.
pub registers-stay : (s : Setup) (past : Past) (e : Entry) → e.access ≡ None → drops e ≡ false → registers_at s (e ∷ past) ≡ registers_at s past
registers-stay s past e none keeps = with-same (cell_held s (e ∷ past)) (cell_held s past) s
    (λ a there. held-marks s past e a none ∙ ap (λ b. cond (b && (e.process == a.reader)) (cell.without_read (cell_held s past a)) (cell_held s past a)) keeps)

-- After an entry that drops the read of its process.

-- to drop a read where none is open changes nothing
without-none : (c : Cell) → c.reading ≡ false → cell.without_read c ≡ c
without-none c none = λ i. record { value = c.value; writing = c.writing; reading = sym none i; touched = c.touched }

-- p drops its read: the cells before and after, and what it is doing
record Dropping (s : Setup) (now before : Access → Cell) (p : ℕ) (d : Doing) : Type 0 where
  pub below : p < s.processes
  pub others : (a : Access) → a.reader ≢ p → now a ≡ before a
  pub own : (a : Access) → a.reader ≡ p → now a ≡ cell.without_read (before a)
  pub reads : (a : Access) → a.reader ≡ p → (before a).reading ≡ reads_now s p a d

-- a cell of which p has no read open stays
unread : (s : Setup) (now before : Access → Cell) (p : ℕ) (d : Doing) → Dropping s now before p d → (a : Access) → reads_now s p a d ≡ false → now a ≡ before a
unread s now before p d x a none = go (a.reader == p) refl
  where
    go : (b : Bool) → (a.reader == p) ≡ b → now a ≡ before a
    go true is = let mine : a.reader ≡ p = eqb-true a.reader p is in x.own a mine ∙ without-none (before a) (x.reads a mine ∙ none)
    go false is = x.others a (eqb-false a.reader p is)

-- dropping the reads of a process that has none open changes no register
none-open : (s : Setup) (now before : Access → Cell) (p : ℕ) (d : Doing) → Dropping s now before p d → ((a : Access) → reads_now s p a d ≡ false) → memory_with before s ≡ memory_with now s
none-open s now before p d x none = with-same before now s (λ a there. sym (unread s now before p d x a (none a)))

-- an open read is of the register that its part reads
open-there : (c : Call) (part : Part) (run : Run) (a : Access) → open_read c part run a ≡ true → (a.owner ≡ (read_at c part).0) × (a.field ≡ (read_at c part).1)
open-there c part (Writing w) a h = cc
open-there c part (Reading bits false) a h = cc
open-there c part (Reading bits true) a h =
    let on : OnCopy (access_at c part (Reading bits true)) a.owner a.field a.bit a.reader = on-copy (access_at c part (Reading bits true)) a.owner a.field a.bit a.reader h in
    (on.owner, on.field)

-- the cells of its register and reader drop it, and all others stay
lane-dropped : (s : Setup) (now before : Access → Cell) (p : ℕ) (command : Command) (number : ℕ) (part : Part) (run : Run) → Dropping s now before p (Runs command number (record { part = part; run = run })) →
    (a : Access) → let register : ℕ × Field = read_at (call s p command number) part in cells_dropped before (record { owner = register.0; field = register.1 }) p a ≡ now a
lane-dropped s now before p command number part run x a = go (a.owner == o) refl (field_number a.field == field_number f) refl (a.reader == p) refl
  where
    c : Call
    c = call s p command number

    o : ℕ
    o = (read_at c part).0

    f : Field
    f = (read_at c part).1

    stays : (open_read c part run a ≡ true → ⊥) → before a ≡ now a
    stays apart = sym (unread s now before p (Runs command number (record { part = part; run = run })) x a (shut (open_read c part run a) refl))
      where
        shut : (b : Bool) → open_read c part run a ≡ b → open_read c part run a ≡ false
        shut true is = absurd (apart is)
        shut false is = is

    go : (k : Bool) → (a.owner == o) ≡ k → (n : Bool) → (field_number a.field == field_number f) ≡ n → (b : Bool) → (a.reader == p) ≡ b → cells_dropped before (record { owner = o; field = f }) p a ≡ now a
    go false owner n field b reader =
        ap (λ k. cond (k && (field_number a.field == field_number f) && (a.reader == p)) (cell.without_read (before a)) (before a)) owner
        ∙ stays (λ read. eqb-false a.owner o owner (open-there c part run a read).0)
    go true owner false field b reader =
        (λ i. cond (owner i && field i && (a.reader == p)) (cell.without_read (before a)) (before a))
        ∙ stays (λ read. eqb-false (field_number a.field) (field_number f) field (ap field_number (open-there c part run a read).1))
    go true owner true field false reader =
        (λ i. cond (owner i && field i && reader i) (cell.without_read (before a)) (before a)) ∙ sym (x.others a (eqb-false a.reader p reader))
    go true owner true field true reader =
        (λ i. cond (owner i && field i && reader i) (cell.without_read (before a)) (before a)) ∙ sym (x.own a (eqb-true a.reader p reader))

-- the registers after its read is dropped
abbrev dropped_at : Setup → ℕ → Doing → List (List Cell) → List (List Cell)
dropped_at s p d memory = elim (reads_of s p d) [
  | None ↦ memory
  | Some register ↦ without_reads memory (lane_number s.processes (record { owner = register.0; field = register.1 }) p)
]

run-dropped : (s : Setup) (now before : Access → Cell) (p : ℕ) (command : Command) (number : ℕ) (part : Part) (run : Run) (torn : Option Access) → Dropping s now before p (Runs command number (record { part = part; run = run })) →
    LeftRun (call s p command number) torn part run → OwnersAt s command number (record { part = part; run = run }) → dropped_at s p (Runs command number (record { part = part; run = run })) (memory_with before s) ≡ memory_with now s
run-dropped s now before p command number part (Writing w) torn x l owners =
    let register : ℕ × Field = read_at (call s p command number) part in
    ap (λ b. elim (cond b (Some register) None) as (λ _. List (List Cell)) [ None ↦ memory_with before s | Some register ↦ without_reads (memory_with before s) (lane_number s.processes (record { owner = register.0; field = register.1 }) p) ]) l.0
    ∙ none-open s now before p (Runs command number (record { part = part; run = Writing w })) x (λ a. refl)
run-dropped s now before p command number part (Reading bits begun) torn x l owners =
    let c : Call = call s p command number in
    let register : ℕ × Field = read_at c part in
    ap (λ b. elim (cond b (Some register) None) as (λ _. List (List Cell)) [ None ↦ memory_with before s | Some register ↦ without_reads (memory_with before s) (lane_number s.processes (record { owner = register.0; field = register.1 }) p) ]) l.0
    ∙ with-dropped before s (record { owner = register.0; field = register.1 }) p (owner-there c s.processes part l.0 owners) x.below
    ∙ with-same (cells_dropped before (record { owner = register.0; field = register.1 }) p) now s (λ a there. lane-dropped s now before p command number part (Reading bits begun) x a)

-- for each kind of work of the process
drop-registers : (s : Setup) (now before : Access → Cell) (p : ℕ) (d : Doing) (torn : Option Access) → Dropping s now before p d → LeftIn s p torn d → AtPlace (OwnersAt s) d → dropped_at s p d (memory_with before s) ≡ memory_with now s
drop-registers s now before p Rests torn x l owners = none-open s now before p Rests x (λ a. refl)
drop-registers s now before p Lies torn x l owners = none-open s now before p Lies x (λ a. refl)
drop-registers s now before p (Closes command number at) torn x l owners = none-open s now before p (Closes command number at) x (λ a. refl)
drop-registers s now before p (Runs command number at) torn x l owners = run-dropped s now before p command number at.part at.run torn x l owners

-- in every record
entry-dropping : (s : Setup) → checked s ≡ Ok tt → (events : List Event) (event : Event) (e : Entry) → entry_of s (past_of s events) event ≡ Some e → e.access ≡ None → drops e ≡ true →
    Dropping s (cell_held s (e ∷ past_of s events)) (cell_held s (past_of s events)) e.process (doing s e.process (past_of s events))
entry-dropping s ok events event e is none gone = record {
  below = (accepted s g events event e is).below;
  others = λ a apart. held-marks s past e a none ∙ (λ i. after a (gone i) (ne_eqb e.process a.reader (λ same. apart (sym same)) i));
  own = λ a mine. held-marks s past e a none ∙ (λ i. after a (gone i) (eq-eqb e.process a.reader (sym mine) i));
  reads = λ a mine. reads_are s g events e.process a mine;
}
  where
    g : IsGood s
    g = is_good s ok

    past : Past
    past = past_of s events

    after : Access → Bool → Bool → Cell
    after a falls mine = cond (falls && mine) (cell.without_read (cell_held s past a)) (cell_held s past a)

pub registers-dropped : (s : Setup) → checked s ≡ Ok tt → (events : List Event) (event : Event) (e : Entry) → entry_of s (past_of s events) event ≡ Some e → e.access ≡ None → drops e ≡ true →
    dropped (process_after s (past_of s events) e.process) (registers_at s (past_of s events)) ≡ registers_at s (e ∷ past_of s events)
registers-dropped s ok events event e is none gone =
    let past : Past = past_of s events in
    let g : IsGood s = is_good s ok in
    drop-registers s (cell_held s (e ∷ past)) (cell_held s past) e.process (doing s e.process past) (remaining s (own e.process past)) (entry-dropping s ok events event e is none gone) (remaining-is s g events e.process) (owners_there s g events e.process)
