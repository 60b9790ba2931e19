-- The number that a register holds after a past: the number of the last write that ended, or that a settled write left.
use Rattle.std.specs.Prelude.{◌<◌, ◌==◌, ℕ, Bool, false, List, [], ◌∷◌, Option, None, Some, cond, slice_index_or}
use Rattle.model.specs.plain_store.{Setup}
use Rattle.model.specs.safe_bit.Cell.{Cell}
use Rattle.reader_copies.specs.{HasItsValue, IsPartlyWritten, IsWritten, Settling, cut_values, settle_after, settled_at, with_value}
use Rattle.safe_number.specs.{IsSettling, NumberWrite}
use Rattle.model.specs.{EachPast, Entry, Field, Past, bit_written, field_number, opening_bits, write_moved}
use Rattle.model.specs.Closings as closing
use Rattle.model.specs.Unit.{value_written}
use Rattle.laws.specs.{Closes, Doing, RegisterWrite, doing, register_write}
use Rattle.registers.specs.{RegisterName}
use Rattle.register_laws.specs.WorldRows.{register_row}

-- THE PROGRESS OF A WRITE OF THE REGISTER

-- The owner of a register does not write it, or writes these bits, or its memory unit settles this bit.
pub data Progress : Type 0 where
  Quiet : Progress
  InWrite : (bits : List Bool) → NumberWrite → Progress
  InSettling : (bit : ℕ) → Settling → Progress

-- Both fields are one field.
abbrev pub is_field : Field → Field → Bool
is_field f g = field_number f == field_number g

-- The progress of a write of this field.
abbrev pub write_progress : Field → Option RegisterWrite → Progress
write_progress f None = Quiet
write_progress f (Some w) = cond (is_field w.field f) (InWrite w.bits w.run) Quiet

-- The progress on a field of a process that does this.
abbrev pub progress_in : Setup → ℕ → Field → Doing → Progress
progress_in s p f (Closes command number (closing.Settles field bit begun taken inside t)) = cond (is_field field f) (InSettling bit t) Quiet
progress_in s p f d = write_progress f (register_write s p d)

-- The progress on a register after a past.
abbrev pub progress_at : Setup → Past → RegisterName → Progress
progress_at s past r = progress_in s r.owner r.field (doing s r.owner past)

-- THE NUMBER, BIT BY BIT

-- A bit of these bits; 0 past the last one.
abbrev pub bit_of : List Bool → ℕ → Bool
bit_of bits k = slice_index_or bits k false

-- The number after an entry of the owner during a write: the write ends, or a failure interrupts it, or neither. n is the number of copies.
abbrev pub number_written : ℕ → Entry → List Bool → NumberWrite → (ℕ → Bool) → ℕ → Bool
number_written n e bits w old = elim e.access [
  | Some a ↦ cond ((write_moved n bits w).bit == w.width) (bit_of bits) old
  | None ↦ cut_values old (bit_of bits) w.bit
]

-- The number after an entry of the owner's memory unit during a settling: the torn bit is settled, or not yet.
abbrev pub number_settled : ℕ → Entry → ℕ → Settling → (ℕ → Bool) → ℕ → Bool
number_settled n e bit t old =
    let v : Bool = settled_at t (value_written e) in
    cond ((settle_after t v).reader == n) (with_value old bit v) old

-- The number after an entry of the owner.
abbrev pub number_by : ℕ → Entry → Progress → (ℕ → Bool) → ℕ → Bool
number_by n e Quiet old = old
number_by n e (InWrite bits w) old = number_written n e bits w old
number_by n e (InSettling bit t) old = number_settled n e bit t old

-- The number of a register after a past.
abbrev pub number_after : Setup → RegisterName → Past → ℕ → Bool
number_after s r [] = bit_of (opening_bits s r.owner r.field)
number_after s r (e ∷ past) = cond (e.process == r.owner) (number_by s.processes e (progress_at s past r) (number_after s r past)) (number_after s r past)

-- WHAT THE ROW HOLDS

-- A row holds a number. During a write it holds the new bits up to the progress of the write, and during a settling all bits except the torn one.
abbrev pub HoldsNumber : List (List Cell) → (ℕ → Bool) → Progress → Type 0
HoldsNumber row number Quiet = IsWritten row number
HoldsNumber row number (InWrite bits w) = IsPartlyWritten row number (bit_of bits) w.bit (bit_written bits w).made
HoldsNumber row number (InSettling bit t) = IsSettling row number bit t × HasItsValue t.begun t.value

-- In every state of a world each register holds its number, up to the progress of its write or its settling.
abbrev pub RegistersHoldTheirNumbers : Type 0
RegistersHoldTheirNumbers = EachPast λ s past. (r : RegisterName) → r.owner < s.processes → HoldsNumber (register_row s past r) (number_after s r past) (progress_at s past r)
