pub use Rattle.safe_bit.specs as safe_bit
pub mod Alike
pub mod Flags
pub mod Histories
pub mod Laws
pub mod Row
pub mod Runs
pub mod Seeing
pub mod Words
pub mod Wordwise
pub mod Written
pub use Alike.{AreAlike, without_unused_flag, without_unused_flags}
pub use Flags.{IsMask, SetsFlag, cell_among, cell_in_flags, cells_of, flag_in, open_flags}
pub use Histories.{DropsAt, IsReadCall, MakesAt, RowCall, calls_at, row_after_call, row_of}
pub use Row.{CanMake, HasCell, IsClosed, IsRow, answer_at, cell_at, cell_in, new_bit, new_row, preset_row, row_after, with_cell, without_reads}
pub use Runs.{HasItsValue, Reading, Settling, Writing, bit_writes, is_open_at, next_read, next_settle, next_write, progress_of, rest_of_settling, rest_of_write, settle_after, settled_at, settles_from, torn_of, write_after, writes_from}
pub use Seeing.{copy_state}
pub use Words.{bit_of_words, bits_of_words}
pub use Wordwise.{AreClosedAmong, IsWrittenAmong, after_read, after_write, over}
pub use Written.{IsAt, IsOpen, IsPartlySettled, IsPartlyWritten, IsRead, IsWrite, IsWritten, KeepsWrite, KeepsWrites, cut_values, with_value}
pub use declared.copy_state.CopyState.{CopyState}
pub use declared.runs.Made.{Made}
pub use declared.runs.Progress.{Progress}
