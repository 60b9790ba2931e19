-- The write of a register by a process or its memory unit: its bits, the number of its accesses made so far, and the copies after it.
use Rattle.std.specs.Prelude.{◌≡◌, ℕ, zero, suc, ◌+◌, ◌-◌, ◌*◌, ◌<◌, Bool, false, List, [], ◌∷◌, length, slice_index_or, Option, None, Some}
use Rattle.model.specs.{Call, Closing, EachPast, Field, Part, Past, Reading, Run, Writing, bit_written, copy, no_ticket, width, with_event, written_at}
use Rattle.model.specs.Closings as closing
use Rattle.model.specs.declared.access.Field.TheVariants.{Choosing, Ticket}
use Rattle.model.specs.declared.events.Event.TheVariants.{Step}
use Rattle.model.specs.safe_bit.Cell.{Cell}
use Rattle.model.specs.safe_number.{NumberWrite}
use Rattle.plain_store.specs.{Setup}
use Rattle.laws.specs.Doings.{Doing, Runs, Closes, call, doing}
use Rattle.laws.specs.Held.{cell_held}

-- A write of one of the process's own registers: the register, its bits, and the progress of the write.
pub record RegisterWrite : Type 0 where
  pub field : Field
  pub bits : List Bool
  pub run : NumberWrite

-- A process at a part of its call makes this write. It makes none if it reads.
abbrev pub write_at : Call → Part → Run → Option RegisterWrite
write_at c part (Writing w) = Some (record { field = (written_at c part).0; bits = (written_at c part).1; run = w })
write_at c part (Reading bits begun) = None

-- A process, or its memory unit, that closes a call makes this write. A unit that settles a torn bit makes none.
abbrev pub closing_write : Call → Closing → Option RegisterWrite
closing_write c (closing.Withdraws w) = Some (record { field = Ticket; bits = no_ticket c; run = w })
closing_write c (closing.Frees inside w) = Some (record { field = Ticket; bits = no_ticket c; run = w })
closing_write c (closing.Lowers w) = Some (record { field = Choosing; bits = false ∷ []; run = w })
closing_write c _ = None

-- The write that p makes, or its memory unit, if it makes one.
abbrev pub register_write : Setup → ℕ → Doing → Option RegisterWrite
register_write s p (Runs command number at) = write_at (call s p command number) at.part at.run
register_write s p (Closes command number at) = closing_write (call s p command number) at
register_write s p _ = None

-- the accesses of a write so far, and all its accesses: two for each copy of each bit. There are n copies.
abbrev pub accesses_made : ℕ → RegisterWrite → ℕ
accesses_made n w = 2 * (n * w.run.bit) + (bit_written w.bits w.run).made

abbrev pub accesses_in_all : ℕ → RegisterWrite → ℕ
accesses_in_all n w = 2 * (n * w.run.width)

-- The past after n Steps more of p alone.
abbrev pub steps_alone : Setup → ℕ → ℕ → Past → Past
steps_alone s p zero past = past
steps_alone s p (suc n) past = with_event s (Step p false) (steps_alone s p n past)

-- the past after the accesses that a write of p still has, if p alone makes Steps
abbrev pub write_ended : Setup → ℕ → RegisterWrite → Past → Past
write_ended s p w past = steps_alone s p (accesses_in_all s.processes w - accesses_made s.processes w) past

-- No write of a bit is open, and it has this value.
pub record HoldsBit (c : Cell) (v : Bool) : Type 0 where
  pub closed : c.writing ≡ false
  pub value : c.value ≡ v

-- Every copy of a register of p holds these bits.
abbrev pub CopiesHold : Setup → Past → ℕ → Field → List Bool → Type 0
CopiesHold s past p field bits = (k r : ℕ) → k < length bits → r < s.processes → HoldsBit (cell_held s past (copy p field r k)) (slice_index_or bits k false)

-- A write has as many bits as its register.
pub record FitsItsRegister (s : Setup) (w : RegisterWrite) : Type 0 where
  pub bits : length w.bits ≡ width s w.field
  pub run : w.run.width ≡ width s w.field

abbrev pub WritesFitTheirRegister : Type 0
WritesFitTheirRegister = EachPast λ s past. (p : ℕ) (w : RegisterWrite) → register_write s p (doing s p past) ≡ Some w → FitsItsRegister s w

-- Once its process alone has made the remaining accesses of a write, every copy of the register holds its bits.
abbrev pub WritesLeaveTheirBits : Type 0
WritesLeaveTheirBits = EachPast λ s past. (p : ℕ) (w : RegisterWrite) → register_write s p (doing s p past) ≡ Some w → CopiesHold s (write_ended s p w past) p w.field w.bits
