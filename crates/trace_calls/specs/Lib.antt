pub mod Calls
pub mod Keeping
pub mod Lines
pub mod Overlaps
pub mod Tables
pub use Calls.{called_at, call_of, calls_of, count_in_call, ended_call, first_in_call, is_answer, is_calling, is_leave, over_call, open_call}
pub use Keeping.{CallsState, HasListed, HasOpened, OpenState}
pub use Lines.{line_of, table_of}
pub use Overlaps.{any_below, begins_write, ends_overlapped, is_overlapped, is_written, is_writing}
pub use Tables.{HasTabled, IsTableOf, ListerState, TraceCallsEnd, WritesTable, WritesTableFront}
