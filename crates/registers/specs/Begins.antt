-- A register access at its begin, and the invariant of the fields of a cursor.
use Rattle.std.specs.Prelude.{◌≡◌, ℕ, ◌+◌, ◌*◌, ◌<◌, ◌≤◌, ◌==◌, ◌&&◌, ◌||◌, not, Bool, true, false, cond, if◌then◌else◌, List, [], Option, None, Some, length, replicate}
use Rattle.plain_store.specs.{Setup}
use Rattle.model.specs.declared.access.Field.TheVariants.{Choosing}
use Rattle.registers.specs.declared.fields.RegisterName.{RegisterName}
use Rattle.model.specs.{TornBit, width}
use Rattle.safe_number.specs.{bits_in}
use Rattle.registers.specs.Cursors.{CursorState, IsAtCopy, lane_number}
use Rattle.registers.specs.declared.cursor.RegisterAccessKind.{RegisterAccessKind}
use Rattle.registers.specs.declared.cursor.RegisterAccessKind.TheVariants.{Reads, Writes, Settles}

-- the cursor with no access to make
abbrev pub idle_cursor : CursorState
idle_cursor = record { register = record { owner = 0; field = Choosing }; reader = 0; copies = 1; width = 0; run = Writes; bit = 0; copy = 0; begun = false; bits = [] }

-- the begin of a read of a register
abbrev pub reading : Setup → RegisterName → ℕ → CursorState
reading s register reader = record { register = register; reader = reader; copies = s.processes; width = width s register.field; run = Reads; bit = 0; copy = 0; begun = false; bits = [] }

-- the begin of a write of these bits to a register
abbrev pub writing : Setup → RegisterName → List Bool → CursorState
writing s register bits = record { register = register; reader = 0; copies = s.processes; width = width s register.field; run = Writes; bit = 0; copy = 0; begun = false; bits = bits }

-- the number of accesses made of the present bit of a write
abbrev pub made_of_bit : CursorState → ℕ
made_of_bit c = 2 * c.copy + (if c.begun then 1 else 0)

-- the access settles; below, the access writes
abbrev pub is_settling : RegisterAccessKind → Bool
is_settling (Settles cut value) = true
is_settling _ = false

abbrev pub is_writing : RegisterAccessKind → Bool
is_writing Writes = true
is_writing _ = false

-- a read or a write has made no access
abbrev pub is_fresh : CursorState → Bool
is_fresh c = (c.bit == 0) && (c.copy == 0) && not c.begun && not (is_settling c.run)

-- the present bit of a write has begun, and has not ended on every copy
abbrev pub is_torn : CursorState → Bool
is_torn c = is_writing c.run && (not (c.copy == 0) || c.begun)

-- the begin of a settling of the present bit, with the number of accesses made of its write
abbrev pub settling : CursorState → CursorState
settling c = record c { run = Settles (made_of_bit c) None; copy = 0; begun = false }

-- the torn bit, before the first access of its settling
abbrev pub torn_bit : CursorState → Option TornBit
torn_bit c = cond (is_torn c) (Some (record { field = c.register.field; bit = c.bit; torn = record { made = made_of_bit c; reader = 0; begun = false; value = None } })) None

-- the settling of a torn bit of a process; the value that was being written makes no difference, and is 0 here
abbrev pub settling_from : Setup → ℕ → TornBit → CursorState
settling_from s owner t = record {
  register = record { owner = owner; field = t.field };
  reader = 0;
  copies = s.processes;
  width = width s t.field;
  run = Settles t.torn.made t.torn.value;
  bit = t.bit;
  copy = t.torn.reader;
  begun = t.torn.begun;
  bits = bits_in (replicate 216 0) (width s t.field);
}

-- the invariant of the fields of a cursor
pub record KeepsCursor (register : RegisterName) (reader copies width lane : ℕ) (run : RegisterAccessKind) (bit copy : ℕ) (words : List ℕ) : Type 0 where
  pub lane_is : lane ≡ lane_number copies register reader
  pub copy_in : reader + copy < copies
  pub few_copies : copies ≤ 16
  pub bit_in : bit ≤ width
  pub few_bits : width ≤ 1728
  pub at : IsAtCopy run reader copy
  pub room : length words ≡ 27
