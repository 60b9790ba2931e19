-- One copy of a bit, and its cell in a memory.
use Rattle.std.specs.Prelude.{ℕ, List}
use Rattle.safe_bit.specs.Cell.{Cell}
use Rattle.model.specs.{Access}
use Rattle.registers.specs.declared.fields.BitCopy.{BitCopy}
use Rattle.registers.specs.Memory.{cell_at}
use Rattle.registers.specs.Cursors.{lane_number}

-- The copy to which an access is made.
abbrev pub copy_named : Access → BitCopy
copy_named a = record { register = record { owner = a.owner; field = a.field }; bit = a.bit; reader = a.reader }

-- The cell of a copy, in a memory with `copies` copies of each bit.
abbrev pub cell_of_copy : ℕ → List (List Cell) → BitCopy → Cell
cell_of_copy copies memory c = cell_at memory (lane_number copies c.register c.reader) c.bit
