-- One register access of a process: its register and its progress.
use Rattle.std.specs.Prelude.{◌≡◌, ◌<◌, ℕ, ◌+◌, ◌-◌, ◌*◌, ◌==◌, Bool, if◌then◌else◌, List}
use Rattle.safe_bit.specs.Cell.{Cell}
use Rattle.registers.specs.declared.fields.RegisterName.{RegisterName}
use Rattle.model.specs.{field_number}
use Rattle.registers.specs.Memory.{HasLanes}
use Rattle.reader_copies.specs.{bits_of_words}
use Rattle.registers.specs.declared.cursor.RegisterAccessKind.{RegisterAccessKind}
use Rattle.registers.specs.declared.cursor.RegisterAccessKind.TheVariants.{Reads, Writes, Settles}

-- a register access
pub record CursorState : Type 0 where
  pub register : RegisterName
  -- the reader whose copies are read; 0 for a write or a settling
  pub reader : ℕ
  -- the number of copies of each bit, and the number of bits of the register
  pub copies : ℕ
  pub width : ℕ
  pub run : RegisterAccessKind
  -- the present bit, the present copy of a write, and whether the access to it has begun
  pub bit : ℕ
  pub copy : ℕ
  pub begun : Bool
  -- the bits below the present one for a read, and the bits that are written for a write
  pub bits : List Bool

-- the lane with a reader's copies of a register: lanes go by the owner, then by the field, then by the reader
abbrev pub lane_number : ℕ → RegisterName → ℕ → ℕ
lane_number copies register reader = (7 * register.owner + field_number register.field) * copies + reader

-- the lane of its reader, which is the first of the lanes that it writes
abbrev pub first_lane : CursorState → ℕ
first_lane c = lane_number c.copies c.register c.reader

-- a read has one copy, and a write begins with reader 0's
abbrev pub IsAtCopy : RegisterAccessKind → ℕ → ℕ → Type 0
IsAtCopy Reads reader copy = copy ≡ 0
IsAtCopy Writes reader copy = reader ≡ 0
IsAtCopy (Settles cut value) reader copy = reader ≡ 0

-- the memory contains all copies of its register, in its width
pub record Fits (memory : List (List Cell)) (c : CursorState) : Type 0 where
  pub lanes : HasLanes memory (lane_number c.copies c.register 0) c.copies c.width
  pub copy : c.reader + c.copy < c.copies
  pub at : IsAtCopy c.run c.reader c.copy

-- the number of accesses that a read has made; below, that of a write
abbrev pub made_of_read : CursorState → ℕ
made_of_read c = 2 * c.bit + (if c.begun then 1 else 0)

abbrev pub made_of_write : CursorState → ℕ
made_of_write c = 2 * (c.copies * c.bit + c.copy) + (if c.begun then 1 else 0)

-- the number of accesses that may be made at once: all that are left, or one for a settling
abbrev pub rest_by : RegisterAccessKind → CursorState → ℕ
rest_by Reads c = 2 * c.width - made_of_read c
rest_by Writes c = 2 * (c.copies * c.width) - made_of_write c
rest_by (Settles cut value) c = if c.bit == c.width then 0 else 1

abbrev pub rest_of : CursorState → ℕ
rest_of c = rest_by c.run c

-- no access is left
abbrev pub is_over : CursorState → Bool
is_over c = c.bit == c.width

-- the bits that a cursor's words hold
abbrev pub bits_kept : RegisterAccessKind → List ℕ → ℕ → ℕ → List Bool
bits_kept Reads words bit width = bits_of_words words bit
bits_kept Writes words bit width = bits_of_words words width
bits_kept (Settles cut value) words bit width = bits_of_words words width
