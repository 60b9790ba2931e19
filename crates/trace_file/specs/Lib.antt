pub use Rattle.scenario.specs as scenario
pub use Rattle.trace.specs as trace
pub mod Faults
pub mod Forms
pub mod Keywords
pub mod Lines
pub mod Reading
pub mod TraceFiles
pub use Faults.{both}
pub use Keywords.{line_kinds, mark_word_of, mark_words, memories, memory_of, move_word_of, move_words}
unfoldable pub use Reading.{cas_values, two_values}
pub use Reading.{access_of, cell_from, entry_by, entry_of, entry_with, index_in, indexed, is_cell_of, is_sign, key_at, mark_of, marks_behind, marks_read, move_of, named_move_of, parts_behind, parts_of, value_of, with_mark}
unfoldable pub use TraceFiles.{first_read, memory_read, processes_read, register_read}
pub use TraceFiles.{TraceProgress, TraceRead, TraceSaid, cleared, entry_in, kind_of, later_read, line_read, line_said, lines_read, number_in, rest_read, said_by, trace_begun, trace_grammar, trace_said}
pub use declared.keywords.MoveWord.{MoveWord}
pub use declared.keywords.TraceLineKind.{TraceLineKind}
