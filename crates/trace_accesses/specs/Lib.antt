pub use Rattle.picture_layout.specs as picture_layout
pub mod Accesses
pub mod Keeping
pub mod Moves
pub mod Rows
pub mod Words
pub use Accesses.{begin_of, change_in_row, change_of, first_overlaps, is_possible, is_within, overlaps_of, overlaps_open, overlaps_with, possible, possible_access, possible_past, shown_access, shown_as, shown_change, monitored_access, monitored_by}
pub use Keeping.{HasRows, HasTaken, HasMonitored, IsRows, IsMonitor, OfTaken, RowsState, MonitorState, begun_if, kept_begin, kept_overlaps, no_rows, row_at, rows_begun, rows_in, rows_taken}
pub use Moves.{kind_of, step_of}
pub use Rows.{counts_from, row_below, row_in, rows_after, rows_with, waves_after, waves_since, waves_with, with_last, written_rows}
pub use Words.{arrow, begin_words, other_than, unlike, value_words, words_of}
pub use Rattle.picture_layout.specs.{WaveCount, WaveLimit}
pub use declared.monitored.RowChange.{RowChange}
pub use declared.monitored.MonitoredAccess.{MonitoredAccess}
