pub mod Checks
pub mod Cuts
pub mod Engines
pub mod Files
pub mod KeyWords
pub mod Limits
pub mod Lines
pub mod Reads
pub mod SourceLines
pub mod Statuses
pub mod Streams
pub mod Texts
pub mod Words
pub use Checks.{counted, fault_if, known, word, ◌>>=◌}
pub use Cuts.{HaveSameFault, ReportsAtLimit, input_limit}
pub use Engines.{streams, text_by}
pub use Files.{Grammar, at_line, begun, file_of, line_read, lines_read, one_more, statement_read, words_read}
pub use KeyWords.{KeyWord, rows_of}
pub use Limits.{IsWithinLimits, is_said, is_short, said_numbers, said_words}
pub use Lines.{IsTooLong, MovesAll, MovesEnded, TakesLine, ends_line, is_inner, without_return}
pub use Reads.{Makes, Takes, UnlessMemory}
pub use SourceLines.{ComesToEnd, EndHolds, FindsLine, Given, GoesOn, GoesToNext, Held, KeepsEnd, LineState, Stays, TakesNext, Reported, coming, shown_line, unless_ended}
pub use Statuses.{status_of_fault}
pub use Streams.{FailsAsWriting, GivesByte, IsReadFault, IsWriteFault, ReadsFront, ReadsInput, WritesFront, failed_reading, failed_write, failed_writing}
pub use Texts.{AddsText, GivesText}
pub use Words.{begins_with, is_blank, lines, onto, texts, words_of}
pub use declared.streams.Failed.{Failed}
pub use declared.faults.Fault.{Fault}
pub use declared.faults.FaultKind.{FaultKind}
pub use declared.faults.LineFault.{LineFault}
