-- The row of a register in the state of a world, and its change by an entry.
use Rattle.std.specs.Prelude.{◌≡◌, ◌+◌, ◌<◌, ◌==◌, ◌&&◌, Bool, false, List, ◌∷◌, cond, None, Some}
use Rattle.model.specs.plain_store.{Setup}
use Rattle.model.specs.safe_bit.Cell.{Cell}
use Rattle.model.specs.safe_bit.{is_of_write}
use Rattle.reader_copies.specs.{IsRow, row_after}
use Rattle.reader_copies.specs.Row as rows
use Rattle.model.specs.{Access, EachEntry, EachPast, Entry, Event, Past, field_number, past_of, width}
use Rattle.laws.specs.{cell_held, drops}
use Rattle.registers.specs.{CursorState, Fits, IsAtCopy, RegisterName}
use Rattle.registers.specs.Rows.{row_of}
use Rattle.world.specs.process.{memory_with}
use Rattle.world.specs.Shows.{Shows, WorldState}
use Rattle.register_laws.specs.Rows.{made_of}

-- The memory of a world after a past.
abbrev pub memory_at : Setup → Past → List (List Cell)
memory_at s past = memory_with (cell_held s past) s

-- The row of a register after a past.
abbrev pub register_row : Setup → Past → RegisterName → List (List Cell)
register_row s past r = row_of s.processes (memory_at s past) r

-- An access is to this register.
abbrev pub is_on : RegisterName → Access → Bool
is_on r a = (a.owner == r.owner) && (field_number a.field == field_number r.field)

-- A row of this register after an entry. An access to the register changes the row. A process that fails or withdraws drops its read.
abbrev pub row_after_entry : RegisterName → Entry → List (List Cell) → List (List Cell)
row_after_entry r e row = elim e.access [
  | Some a ↦ cond (is_on r a) (row_after row a.bit (made_of a)) row
  | None ↦ cond (drops e) (rows.without_reads row e.process) row
]

-- An entry begins, ends or settles a write of a bit of this register.
abbrev pub writes_on : RegisterName → Entry → Bool
writes_on r e = elim e.access [ None ↦ false | Some a ↦ is_of_write a.how && is_on r a ]

-- The memory of each world has these rows.
abbrev pub WorldsHaveTheseRows : Type 0
WorldsHaveTheseRows = (w : WorldState) (events : List Event) → Shows w events → (r : RegisterName)
    → row_of w.setup.processes w.registers r ≡ register_row w.setup (past_of w.setup events) r

-- Each row has a copy of each bit of its register for each process.
abbrev pub RowsAreWhole : Type 0
RowsAreWhole = EachPast λ s past. (r : RegisterName) → r.owner < s.processes → IsRow (register_row s past r) (width s r.field)

-- Each entry changes each row by its own access, or by the read that it drops.
abbrev pub EntriesChangeRows : Type 0
EntriesChangeRows = EachEntry λ s past e. (r : RegisterName) → r.owner < s.processes → register_row s (e ∷ past) r ≡ row_after_entry r e (register_row s past r)

-- A cursor of the setup, on a register of the setup.
pub record IsCursorOf (s : Setup) (c : CursorState) : Type 0 where
  pub owner : c.register.owner < s.processes
  pub copies : c.copies ≡ s.processes
  pub wide : c.width ≡ width s c.register.field
  pub copy : c.reader + c.copy < c.copies
  pub at : IsAtCopy c.run c.reader c.copy

-- Each cursor of the setup fits the memory of a world. So the laws of a cursor's steps apply to it.
abbrev pub CursorsFitWorlds : Type 0
CursorsFitWorlds = EachPast λ s past. (c : CursorState) → IsCursorOf s c → Fits (memory_at s past) c
