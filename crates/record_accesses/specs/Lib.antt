pub use Rattle.picture_layout.specs as picture_layout
pub mod Accesses
pub mod BitNames
pub mod Bits
pub mod Keeping
pub mod Marks
pub mod Moves
pub mod Opened
pub mod Overlaps
pub mod Rows
pub mod Waves
pub mod Words
pub use Accesses.{begin_of, change_by, dropped_as, dropped_by, is_there, possible, possible_access, possible_past, shown_access, shown_as, shown_by, shown_change, shown_dropped, shown_made, step_by, step_of, monitored, monitored_by, monitored_of, with_words_if}
pub use BitNames.{bit_fed, is_one_bit, one_bit_equiv, one_bit_fed}
pub use Bits.{bit_after, bit_of, new_bit, writer_after, writer_of, writer_with}
pub use Keeping.{BitsState, HasBits, HasOpened, HasTaken, HasMonitored, IsPossible, OfTaken, MonitorState, bits_taken, entry_with, no_bits, opened_taken, state_at}
pub use Marks.{AreOwnReads, AreShown, IsOwnRead, MarksOverlappedReads, MarksOverlappedReadsOfRuns, box_of}
pub use Moves.{kind_of}
pub use Opened.{begun_by, dropped, drops, drops_read, left_open, opened, read_of, reads_bit, write_of, writes_bit}
pub use Overlaps.{first_overlaps, is_writer, overlaps_by, overlaps_with}
pub use Rows.{counts_from, row_in, rows_after, rows_with, waves_after, waves_since, waves_with, with_last, written_bits}
pub use Waves.{change_in_row, change_of, is_within}
pub use Words.{arrow, other_than, unlike, words_of}
pub use declared.bits.BitState.{BitState}
pub use Rattle.picture_layout.specs.{WaveCount, WaveLimit}
pub use declared.opened.OpenBitAccess.{OpenBitAccess}
pub use declared.monitored.DroppedRead.{DroppedRead}
pub use declared.monitored.BitChange.{BitChange}
pub use declared.monitored.Monitored.{Monitored}
pub use declared.monitored.MonitoredBitAccess.{MonitoredBitAccess}
