pub use Rattle.scenario_run.specs as scenario_run
pub mod Audits
pub mod BitCells
pub mod Bits
pub mod Listings
pub mod Plain
pub mod RecordedRuns
pub mod Recordings
pub mod Replayings
pub mod Sinks
pub mod Sweepings
pub use Audits.{IsRunVerdict, ReportsVerdict, audited, run_length}
pub use BitCells.{bit_after, bit_line_text, can_take, cell_text_from, made, made_text}
pub use Listings.{Records, RecordsEvent, event_reported}
pub use RecordedRuns.{RecordedRunsAreReadAgain, WritesRecord}
pub use Recordings.{entries_longer, entries_text, entry_reported, lines_more, recorded}
pub use Sweepings.{SweepsRun, ReportsSweep, accepted_calls, call_of, calls_in, run_swept, swept, swept_lines}
