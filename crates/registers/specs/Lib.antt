pub use Rattle.choices.specs as choices
pub use Rattle.reader_copies.specs as reader_copies
pub use Rattle.safe_bit.specs as safe_bit
pub mod Accesses
pub mod AtParts
pub mod Begins
pub mod BitCopies
pub mod CopyBytes
pub mod Cursors
pub mod Laws
pub mod Memory
pub mod Openings
pub mod Progress
pub mod Rows
pub mod Wordwise
pub mod Words
pub use Accesses.{LeadsTo, access_next, access_of, after_by, answered, applied, cursor_after, ends_bit, ends_copy, ends_overlapped, ends_settling, ends_touched, lane_of_access, move_by, newest_of, next_access, next_answered, overlapped_of, overlaps_next, read_after, read_move, run_of, value_written, write_after, write_move}
pub use AtParts.{IsAtPart, IsDone, ReadsAt, WritesAt, entered, marks_moved, moved, place_at, place_moved, run_at, run_by}
pub use Begins.{is_fresh, is_settling, is_torn, is_writing, made_of_bit, reading, settling, settling_from, torn_bit, writing}
pub use BitCopies.{cell_of_copy, copy_named}
pub use CopyBytes.{copies_in, copy_bytes, has_open_write, register_bytes, values_in}
pub use Cursors.{CursorState, Fits, IsAtCopy, bits_kept, first_lane, is_over, lane_number, made_of_read, made_of_write, rest_by, rest_of}
pub use Memory.{AreAlikeMemories, HasLanes, cell_at, lane_of, memory_moved, without_reads}
pub use Openings.{AreOf, AreOfOneSetup, field_numbered, opening_lane, opening_memory}
pub use Progress.{access_on, accesses_in_all, accesses_made, last_access, last_by_run, last_read, last_write, made_of_settling, settling_in_all}
pub use Rows.{bit_begun, register_number, settling_kept, values_held, write_kept}
pub use Words.{byte_of_word}
pub use Wordwise.{AreAhead, more_bits}
pub use declared.access_made.AccessMade.{AccessMade}
pub use declared.cursor.RegisterAccessKind.{RegisterAccessKind}
pub use declared.fields.BitCopy.{BitCopy}
pub use declared.fields.RegisterName.{RegisterName}
