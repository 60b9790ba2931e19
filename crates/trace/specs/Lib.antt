pub use Rattle.plain_store.specs as plain_store
pub mod CellNames
pub mod Entries
pub mod Moves
pub mod Setups
pub mod Shown
pub mod Tables
pub use CellNames.{begins_with_digit, is_cell_name}
pub use Entries.{TraceEntry, TracePast, trace_entry}
pub use Moves.{access_reading, alters, begins, begins_read, changes, ends, ends_read, fits, is_part, move_reading, only_writes, reads, value_read, value_written, values, writes}
pub use Setups.{TraceSetup, is_atomic, is_register, is_trace_setup, most_bits}
pub use Shown.{access_if, access_text, cell_text, lock_mark_text, marks_text, move_text, register_name, trace_entry_line}
pub use Tables.{first_that}
pub use declared.accesses.Cell.{Cell}
pub use declared.accesses.CellAccess.{CellAccess}
pub use declared.accesses.CellMove.{CellMove}
pub use declared.marks.LockMark.{LockMark}
pub use declared.setups.TraceMemory.{TraceMemory}
pub use declared.setups.TraceRegister.{TraceRegister}
