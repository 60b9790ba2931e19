-- The cursor of a register access: in a script, and at a part of a call.
use Rattle.std.specs.Prelude.{◌≡◌, ◌<◌, ℕ, Bool, true, false, cond, List, [], ◌++◌, length}
use Rattle.plain_store.specs.{Setup}
use Rattle.model.specs.{Call, Field, Mark, Part, Place, Reading, Run, Writing, enter, first_marks, is_read, last_marks, part_after, read_at, width, written_at}
use Rattle.registers.specs.Accesses.{cursor_after, next_access}
use Rattle.registers.specs.Begins.{is_fresh, reading, writing}
use Rattle.registers.specs.Cursors.{CursorState, is_over}
use Rattle.registers.specs.Rows.{write_kept}
use Rattle.registers.specs.declared.cursor.RegisterAccessKind.{RegisterAccessKind}
use Rattle.registers.specs.declared.cursor.RegisterAccessKind.TheVariants.{Reads, Writes}

-- the progress of the register access of a script
abbrev pub run_by : RegisterAccessKind → CursorState → Run
run_by Reads cur = Reading cur.bits cur.begun
run_by _ cur = Writing (write_kept cur)

abbrev pub run_at : CursorState → Run
run_at cur = run_by cur.run cur

-- the cursor after its next access; the end of a read returns v
abbrev pub moved : CursorState → Bool → CursorState
moved cur v = cursor_after cur (next_access cur v).how

-- p reads this register, and has not read all of it
pub record ReadsAt (s : Setup) (p : ℕ) (register : ℕ × Field) (cur : CursorState) : Type 0 where
  pub run : cur.run ≡ Reads
  pub at : cur.register ≡ record { owner = register.0; field = register.1 }
  pub reader : cur.reader ≡ p
  pub copies : cur.copies ≡ s.processes
  pub wide : cur.width ≡ width s register.1
  pub copy : cur.copy ≡ 0
  pub bits : length cur.bits ≡ cur.bit
  pub going : cur.bit < cur.width

-- p writes these bits to this register of its own, and has not written all of them
pub record WritesAt (s : Setup) (p : ℕ) (written : Field × List Bool) (cur : CursorState) : Type 0 where
  pub run : cur.run ≡ Writes
  pub at : cur.register ≡ record { owner = p; field = written.0 }
  pub reader : cur.reader ≡ 0
  pub copies : cur.copies ≡ s.processes
  pub wide : cur.width ≡ width s written.0
  pub bits : cur.bits ≡ written.1
  pub copy : cur.copy < cur.copies
  pub going : cur.bit < cur.width

-- the cursor is at a part of a call
abbrev pub IsAtPart : Call → Part → CursorState → Type 0
IsAtPart c part cur = elim (is_read part) [ true ↦ ReadsAt c.setup c.process (read_at c part) cur | false ↦ WritesAt c.setup c.process (written_at c part) cur ]

-- the cursor with which a part begins
abbrev pub entered : Call → Part → CursorState
entered c part = elim (is_read part) [
  | true ↦ reading c.setup (record { owner = (read_at c part).0; field = (read_at c part).1 }) c.process
  | false ↦ writing c.setup (record { owner = c.process; field = (written_at c part).0 }) (written_at c part).1
]

-- the position of a cursor that is at a part
abbrev pub place_at : Part → CursorState → Place
place_at part cur = record { part = part; run = run_at cur }

-- the position after a part's next access, by the cursor
abbrev pub place_moved : Call → Part → CursorState → Place
place_moved c part next = cond (is_over next) (enter c (part_after c part next.bits)) (place_at part next)

-- the marks of that access, by the cursor before it and after it
abbrev pub marks_moved : Call → Part → CursorState → CursorState → List Mark
marks_moved c part cur next = cond (is_fresh cur) (first_marks part) [] ++ cond (is_over next) (last_marks c part next.bits) []

-- all accesses of a part were made
pub record IsDone (c : Call) (part : Part) (cur : CursorState) : Type 0 where
  pub reads : is_read part ≡ true → (cur.run ≡ Reads) × (cur.width ≡ width c.setup (read_at c part).1) × (length cur.bits ≡ cur.width)
  pub writes : is_read part ≡ false → cur.run ≡ Writes
