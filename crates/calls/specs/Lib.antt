pub use Rattle.scenario_run.specs as scenario_run
pub use Rattle.judge.specs as judge
pub use Rattle.scenario.specs as scenario
pub use Rattle.world.specs as world
pub mod Alike
pub mod Columns
pub mod Observing
pub mod Lines
pub mod Passing
pub mod RecordTables
pub mod Recorded
pub mod Stepping
pub mod Tables
pub use Alike.{GoodRecordsListAsRuns, RecordsOfRunsListAsRuns, lines_without_waits, open_lines_without_waits, table_without_waits, without_wait}
pub use Columns.{accesses, accesses_itself, answer_after, called, called_at, count_in_call, ends_number, ends_waiting, first_if, first_in_call, goes_on_after, has_access, holds_up, is_answered, is_calling, is_left, is_taken, is_unmarked, is_withdrawal, makes_itself, marked, more_if, number_after, over_call, place_after, reports_waiting, ticket_after, ticket_in_call, waited_for}
pub use Observing.{ComesInTurn, GoesBy, GoesOn, HasObserved, IsKnown, TableState, ReportsRead, ended_call, open_call}
pub use Lines.{answer_field, call_head, call_line, doubled, ended_lines, field, header, line_of, number_field, open_lines, table_text, waited}
pub use Passing.{HasNotFailed, HaveRoom, Passes, begun_among, follows, passed, quiet_entry, reads_begun, with_passed, writes_begun}
pub use RecordTables.{CallsEnd, HasListedAll, ReportsCalls, Monitors}
pub use Recorded.{HasListed, Lists, begins_read_of, call_kept, ended_of_process, ended_recorded, ends_own_overlapped, entry_with, is_there, last_access, later_access, listed, open_recorded, open_recorded_lines, overlaps_in, record_table, recorded, recorded_accesses, recorded_lines}
pub use Stepping.{AreFew, accessed_by, at_rest, begun, observed, marked_all, marked_on, no_accesses, no_marks, call_state, waits_by, with_access, with_mark}
pub use Tables.{CutsReported, HasTabled, Reports, known_step, lines_after, tabled}
pub use declared.called.Accesses.{Accesses}
pub use declared.call_state.CallState.{CallState}
pub use declared.called.Called.{Called}
pub use declared.called.EntryFacts.{EntryFacts}
pub use declared.called.Marked.{Marked}
pub use declared.overlaps.OverlapMonitor.{OverlapMonitor}
pub use declared.record_table.RecordCalls.{RecordCalls}
