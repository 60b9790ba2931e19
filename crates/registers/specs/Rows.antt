-- The memory and its cursors in the terms of scripts: the rows of a register, and the progress of a register access of a script.
use Rattle.std.specs.Prelude.{ℕ, ◌+◌, ◌*◌, ◌==◌, Bool, false, if◌then◌else◌, List, map, Option, None, Some, slice_index_or}
use Rattle.std.specs.List.{range_with_len}
use Rattle.safe_bit.specs.Cell.{Cell}
use Rattle.reader_copies.specs.Runs as copies
use Rattle.safe_number.specs.{NumberWrite}
use Rattle.registers.specs.declared.fields.RegisterName.{RegisterName}
use Rattle.model.specs.{field_number}
use Rattle.registers.specs.Memory.{lane_of}
use Rattle.registers.specs.Begins.{made_of_bit}
use Rattle.registers.specs.Cursors.{CursorState, lane_number}

-- the number of a register among those of all processes
abbrev pub register_number : RegisterName → ℕ
register_number register = 7 * register.owner + field_number register.field

-- the copies of a register, reader by reader
abbrev pub row_of : ℕ → List (List Cell) → RegisterName → List (List Cell)
row_of copies memory register = map (λ reader. lane_of memory (lane_number copies register reader)) (range_with_len 0 copies)

-- the value of a register, by reader 0's copies
abbrev pub values_held : ℕ → List (List Cell) → RegisterName → List Bool
values_held copies memory register = map (λ (c : Cell). c.value) (lane_of memory (lane_number copies register 0))

-- the progress of the write of the present bit, if it has begun
abbrev pub bit_begun : ℕ → Bool → Option copies.Writing
bit_begun made value = if made == 0 then None else Some (record { value = value; made = made; ended = false })

-- a write in the form of a script
abbrev pub write_kept : CursorState → NumberWrite
write_kept c = record { width = c.width; bit = c.bit; run = bit_begun (made_of_bit c) (slice_index_or c.bits c.bit false) }

-- a settling of a write that was interrupted, with its value if it is chosen
abbrev pub settling_kept : ℕ → Option Bool → CursorState → copies.Settling
settling_kept cut value c = record { made = cut; reader = c.copy; begun = c.begun; value = value }
