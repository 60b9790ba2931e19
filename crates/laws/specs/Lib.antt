pub mod Doings
pub mod Held
pub mod Lines
pub mod LockLaws
pub mod Steps
pub mod Writes
pub use Doings.{Closes, Doing, Lies, Rests, Runs, call, closes, does_after, doing, goes_on, is_inside, is_inside_at, is_inside_closing, runs}
pub use Held.{IsThere, calls_on, cell_held, drops, is_withdrawn}
pub use Lines.{PrecedesInLine, ticket_after, ticket_reported}
pub use LockLaws.{UnitsAreShort, WaitsBefore, ends_doorway, is_taken}
pub use Steps.{IsCallOf, IsLive, IsReached, being_written, cut_of, does_then, marks_with, next_of, reads_of}
pub use Writes.{CopiesHold, FitsItsRegister, HoldsBit, RegisterWrite, accesses_in_all, accesses_made, closing_write, register_write, steps_alone, write_at, write_ended}
