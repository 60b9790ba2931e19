pub use Rattle.calls.specs as calls
pub mod Copies
pub mod Doing
pub mod Keeping
pub mod Knowing
pub mod Lines
pub mod Making
pub mod Observing
pub mod Processes
pub mod RecordStates
pub mod ObservedRuns
pub mod States
pub mod Stores
pub use Copies.{are_all, are_other, bit_at, bits_held, bits_in_cells, bits_read, bits_text, copies_line, copies_lines, copy_text, differ, has_changed, image_text, is_among, is_copy_changed, is_image, line_of_first, lines_of_register, reader_if, register_lines, register_words, shown, text_at, texts_in}
pub use Doing.{ComesNext, access_in, busy_lines, call_reported, doing_by, doing_lines, doing_with, failed_words, open_by, open_words, progress_words, read_progress, reads_words, settling_lines, settling_progress, ticket_lines, value_written, write_progress, writes_words}
pub use Keeping.{Passes, ReportsNumber, call_kept, failed_at, has_accessed, kept, kept_marked, kept_stepped, nothing_kept, number_finished, opened_if, read_after, read_last, read_with, without_accesses}
pub use Knowing.{AreGiven, AreOf, CoreShows}
pub use Lines.{line_if, open_lines, process_line, taken_words}
pub use Making.{EventsAreMade, IsMade, WritesMade, made_line, makes_event, making_line, number_in}
pub use Observing.{HasObservedRecord, IsNext, IsStored, StoresNext, newest_lines, newest_stored, taken_with}
pub use Processes.{count_line, lines_at, lines_of_two, newest_line, process_lines, rest_line, running_lines, words_added}
pub use RecordStates.{RecordsHaveStatesOfRuns, StateEnds, ReportsState, bad_line, good_ones, line_of_newest, recorded_state}
pub use ObservedRuns.{HasObserved, SnapshotState, HasObservedWorld, state_lines}
pub use States.{HasSeen, Observes, ObservesReported, IsNewestWithin, entry_reported, first_of, head_lines, newest, state_after, state_of, state_text, stated, stated_in, unmarked_entry}
pub use Stores.{history_lines, is_some_call, number_word, store_text}
pub use declared.kept.FinishedRead.{FinishedRead}
pub use declared.kept.ProcessSummary.{ProcessSummary}
pub use declared.observer.StateObserver.{StateObserver}
pub use declared.record_observer.GoodEntries.{GoodEntries}
pub use declared.record_observer.NewestEntry.{NewestEntry}
pub use declared.record_observer.RecordStateObserver.{RecordStateObserver}
pub use declared.process_lines.ProcessLines.{ProcessLines}
