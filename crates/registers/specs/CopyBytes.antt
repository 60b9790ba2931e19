-- A reader's copy of a register as bytes.
use Rattle.std.specs.Prelude.{ℕ, Bool, List, cond, map, Option, None, Some}
use Rattle.std.specs.List.{list_any}
use Rattle.safe_bit.specs.Cell.{Cell}
use Rattle.model.specs.{bytes_of_bits}
use Rattle.registers.specs.declared.fields.RegisterName.{RegisterName}
use Rattle.registers.specs.Cursors.{lane_number}
use Rattle.registers.specs.Memory.{lane_of}

-- The bits of a register make 216 bytes: the least significant bit of each byte comes first, and zeros follow the bits.
unfoldable pub register_bytes : List Bool → List ℕ
register_bytes bits = bytes_of_bits 216 bits

-- A write of one of these copies is open.
abbrev pub has_open_write : List Cell → Bool
has_open_write copies = list_any (λ (c : Cell). c.writing) copies

-- The values of these copies.
abbrev pub values_in : List Cell → List Bool
values_in copies = map (λ (c : Cell). c.value) copies

-- The copies of all bits of a register make these bytes, or none while a write of one of them is open.
abbrev pub copy_bytes : List Cell → Option (List ℕ)
copy_bytes copies = cond (has_open_write copies) None (Some (register_bytes (values_in copies)))

-- The copies that a reader has of a register, in a memory with `copies` copies of each bit.
abbrev pub copies_in : ℕ → List (List Cell) → RegisterName → ℕ → List Cell
copies_in copies memory register reader = lane_of memory (lane_number copies register reader)
