-- The memory whose cells are given by a function of an access.
use Rattle.std.specs.Prelude.{ℕ, ◌==◌, ◌&&◌, ◌*◌, ◌/◌, ◌%◌, Bool, cond, List, map}
use Rattle.std.specs.List.{range_with_len}
use Rattle.registers.specs.safe_bit.Cell.{Cell, cell_after, new_cell, without_read}
use Rattle.plain_store.specs.{Setup}
use Rattle.model.specs.{Access, copy, field_number, opening_bit, same_bit, width}
use Rattle.registers.specs.{RegisterName, field_numbered}

-- an access to a bit of a lane
abbrev pub access_there : Setup → (lane bit : ℕ) → Access
access_there s lane bit = copy (lane / s.processes / 7) (field_numbered (lane / s.processes % 7)) (lane % s.processes) bit

-- a lane of these cells
abbrev pub lane_with : (Access → Cell) → Setup → ℕ → List Cell
lane_with cells s lane = map (λ bit. cells (access_there s lane bit)) (range_with_len 0 (width s (field_numbered (lane / s.processes % 7))))

-- the memory of these cells
abbrev pub memory_with : (Access → Cell) → Setup → List (List Cell)
memory_with cells s = map (lane_with cells s) (range_with_len 0 (7 * s.processes * s.processes))

-- the initial cells
abbrev pub cells_opening : Setup → Access → Cell
cells_opening s x = new_cell (opening_bit s x)

-- the cells after an access, which changes the cell of its bit
abbrev pub cells_after : (Access → Cell) → Access → Access → Cell
cells_after cells a x = cond (same_bit x a) (cell_after (cells x) a.how) (cells x)

-- the access is one of this reader to a register
abbrev pub is_of_reader : RegisterName → ℕ → Access → Bool
is_of_reader register reader x = (x.owner == register.owner) && (field_number x.field == field_number register.field) && (x.reader == reader)

-- the cells after the reader has dropped its read of the register
abbrev pub cells_dropped : (Access → Cell) → RegisterName → ℕ → Access → Cell
cells_dropped cells register reader x = cond (is_of_reader register reader x) (without_read (cells x)) (cells x)
