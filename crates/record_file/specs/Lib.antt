pub use Rattle.scenario.specs as scenario
pub mod Faults
pub mod Forms
pub mod Given
pub mod Keywords
pub mod Printing
pub mod ReadAgain
pub mod Reading
pub mod RecordFiles
pub use Faults.{both}
pub use Given.{IsEntry, is_access, is_answer, is_entry, is_mark, is_reply}
pub use Keywords.{answer_word_of, field_of, fields, mark_names, mark_word_of, or_reply, own_answer_of, own_answers, reply_names, reply_word_of}
pub use Printing.{access_words, answer_words, behind_spaces, copy_word, dotted_field, entry_line, entry_words, head_words, mark_words, move_words, record_text, reply_words, signed_words, step_entry}
pub use ReadAgain.{BeginsRecord, FitLines, FitsLine, IsSetupOfFile, RecordsAreReadAgain, RecordsFitLines}
unfoldable pub use Reading.{access_of, answered_of, called_of, copy_of, taken_of}
pub use Reading.{answer_count, answer_of, dotted, entry_by, entry_of, entry_with, field_at, is_sign, lone_mark_of, mark_of, marks_read, move_of, named_mark_of, parts_behind, parts_of, reply_count, reply_of, sum_first, waiting_of, with_mark}
unfoldable pub use RecordFiles.{first_read, head_read, pair_read}
pub use RecordFiles.{Progress, Said, begins_with_digit, cleared, entry_in, kind_in, kind_of, line_read, line_said, lines_read, record_grammar, record_of, rest_read, said_by}
pub use declared.keywords.AnswerWord.{AnswerWord}
pub use declared.line_kinds.LineKind.{LineKind}
pub use declared.keywords.MarkWord.{MarkWord}
pub use declared.keywords.ReplyWord.{ReplyWord}
