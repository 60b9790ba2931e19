-- The view of a copy of a bit.
use Rattle.safe_bit.specs.Cell.{Cell}
use Rattle.reader_copies.specs.declared.copy_state.CopyState.{CopyState}

-- a cell, except whether a read of it is open
abbrev pub copy_state : Cell → CopyState
copy_state c = record { value = c.value; writing = c.writing; touched = c.touched }
