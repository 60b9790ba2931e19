-- The progress of a cursor: the number of accesses made, their total, and the last one.
use Rattle.std.specs.Prelude.{ℕ, ◌+◌, ◌-◌, ◌*◌, ◌/◌, ◌%◌, ◌==◌, ◌&&◌, nat_lt, Bool, false, not, if◌then◌else◌, Option, None, Some, slice_index_or}
use Rattle.safe_bit.specs.{Move}
use Rattle.safe_bit.specs.declared.moves.Move.TheVariants.{BeginWrite, EndWrite, BeginRead, EndRead}
use Rattle.model.specs.{Access}
use Rattle.registers.specs.Cursors.{CursorState, made_of_read, made_of_write}
use Rattle.registers.specs.declared.cursor.RegisterAccessKind.{RegisterAccessKind}
use Rattle.registers.specs.declared.cursor.RegisterAccessKind.TheVariants.{Reads, Writes, Settles}

-- THE NUMBER OF ACCESSES

-- A write that was interrupted after `cut` accesses was open on a copy.
abbrev pub is_cut_open : ℕ → Bool
is_cut_open cut = cut % 2 == 1

-- Its settling makes two accesses on each copy, and one on the copy that was open. This is the number made, at the present copy.
abbrev pub made_of_settling : (cut copy : ℕ) → Bool → ℕ
made_of_settling cut copy begun = 2 * copy + (if begun then 1 else 0) - (if is_cut_open cut && nat_lt (cut / 2) copy then 1 else 0)

-- The total number of accesses of its settling.
abbrev pub settling_in_all : (cut copies : ℕ) → ℕ
settling_in_all cut copies = 2 * copies - (if is_cut_open cut then 1 else 0)

abbrev pub made_by_run : RegisterAccessKind → CursorState → ℕ
made_by_run Reads c = made_of_read c
made_by_run Writes c = made_of_write c
made_by_run (Settles cut value) c = made_of_settling cut c.copy c.begun

abbrev pub all_by_run : RegisterAccessKind → CursorState → ℕ
all_by_run Reads c = 2 * c.width
all_by_run Writes c = 2 * (c.copies * c.width)
all_by_run (Settles cut value) c = settling_in_all cut c.copies

-- The number of accesses that a cursor has made of its register access; below, their total.
abbrev pub accesses_made : CursorState → ℕ
accesses_made c = made_by_run c.run c

abbrev pub accesses_in_all : CursorState → ℕ
accesses_in_all c = all_by_run c.run c

-- THE LAST ONE

-- The access to a copy of a bit of its register that makes this move.
abbrev pub access_on : CursorState → (bit copy : ℕ) → Move → Access
access_on c bit copy how = record { owner = c.register.owner; field = c.register.field; bit = bit; reader = c.reader + copy; how = how }

-- The access that a read made last.
abbrev pub last_read : CursorState → Option Access
last_read c = if c.begun then Some (access_on c c.bit c.copy BeginRead)
    else if c.bit == 0 then None
    else Some (access_on c (c.bit - 1) c.copy (EndRead (slice_index_or c.bits (c.bit - 1) false)))

-- The access that a write made last.
abbrev pub last_write : CursorState → Option Access
last_write c = if c.begun then Some (access_on c c.bit c.copy (BeginWrite (slice_index_or c.bits c.bit false)))
    else if not (c.copy == 0) then Some (access_on c c.bit (c.copy - 1) EndWrite)
    else if c.bit == 0 then None
    else Some (access_on c (c.bit - 1) (c.copies - 1) EndWrite)

abbrev pub last_by_run : RegisterAccessKind → CursorState → Option Access
last_by_run Reads c = last_read c
last_by_run Writes c = last_write c
last_by_run (Settles cut value) c = None

-- The access that a cursor made last. There is none if it has made none, and none while it settles.
abbrev pub last_access : CursorState → Option Access
last_access c = last_by_run c.run c
