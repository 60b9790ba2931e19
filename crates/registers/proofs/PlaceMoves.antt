-- A position advances by its cursor.
use Rattle.std.proofs.Common.{◌≡◌, ◌<◌, Bool, true, false, cond, [], ◌++◌, refl, arith}
use Rattle.plain_store.specs.{Setup}
use Rattle.model.specs.{Call, Field, Part, Reading, Writing, enter, first_marks, is_read, marks_of, new_run, place_after, read_at, width, written_at}
use Rattle.model.specs.declared.access.Field.TheVariants.{Choosing, Ticket, Commit, Stamp0, Stamp1, Image0, Image1}
use Rattle.safe_number.specs.{new_write}
use Rattle.model.proofs.Width.{IsGood}
use Rattle.registers.specs.{CursorState, IsAtPart, ReadsAt, WritesAt, entered, marks_moved, moved, place_at, place_moved, reading, run_at, writing}
use Rattle.registers.proofs.CursorRuns.{moves}

pub place-moves : (c : Call) (part : Part) (cur : CursorState) (v : Bool) → IsAtPart c part cur → place_after c (place_at part cur) v ≡ place_moved c part (moved cur v)
place-moves c part cur v at =
    let m = moves c part cur v at in
    λ i. cond (m.last i) (enter c (m.next i)) (record { part = part; run = m.run i })

pub marks-move : (c : Call) (part : Part) (cur : CursorState) (v : Bool) → IsAtPart c part cur → marks_of c (place_at part cur) v ≡ marks_moved c part cur (moved cur v)
marks-move c part cur v at =
    let m = moves c part cur v at in
    λ i. cond (m.fresh i) (first_marks part) [] ++ cond (m.last i) (m.marks i) []

-- the cursor that a part begins with
pub entered-run : (c : Call) (part : Part) → run_at (entered c part) ≡ new_run c part
entered-run c part = by (is_read part)
  where
    by : (b : Bool) → run_at (elim b as (λ _. CursorState) [
      | true ↦ reading c.setup (record { owner = (read_at c part).0; field = (read_at c part).1 }) c.process
      | false ↦ writing c.setup (record { owner = c.process; field = (written_at c part).0 }) (written_at c part).1
    ]) ≡ cond b (Reading [] false) (Writing (new_write (width c.setup (written_at c part).0)))
    by true = refl
    by false = refl

pub entered-place : (c : Call) (part : Part) → place_at part (entered c part) ≡ enter c part
entered-place c part = λ i. record { part = part; run = entered-run c part i }

-- the cursor is at that part
width-some : (s : Setup) (f : Field) → IsGood s → 0 < width s f
width-some s Choosing g = omega arith
width-some s Ticket g = omega (arith, g.ticket_is)
width-some s Commit g = omega arith
width-some s Stamp0 g = omega (arith, g.stamp_is)
width-some s Stamp1 g = omega (arith, g.stamp_is)
width-some s Image0 g = omega (arith, g.slot_is)
width-some s Image1 g = omega (arith, g.slot_is)

pub entered-at : (c : Call) (part : Part) → IsGood c.setup → c.process < c.setup.processes → IsAtPart c part (entered c part)
entered-at c part good inside = by (is_read part)
  where
    start : (b : Bool) → CursorState
    start b = elim b as (λ _. CursorState) [
      | true ↦ reading c.setup (record { owner = (read_at c part).0; field = (read_at c part).1 }) c.process
      | false ↦ writing c.setup (record { owner = c.process; field = (written_at c part).0 }) (written_at c part).1
    ]

    by : (b : Bool) → elim b as (λ _. Type 0) [ true ↦ ReadsAt c.setup c.process (read_at c part) (start b) | false ↦ WritesAt c.setup c.process (written_at c part) (start b) ]
    by true = record { run = refl; at = refl; reader = refl; copies = refl; wide = refl; copy = refl; bits = refl; going = width-some c.setup (read_at c part).1 good }
    by false = record { run = refl; at = refl; reader = refl; copies = refl; wide = refl; bits = refl; copy = omega (arith, inside); going = width-some c.setup (written_at c part).0 good }
