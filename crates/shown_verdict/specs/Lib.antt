pub mod Lines
pub mod Sentences
pub mod Verdicts
pub use Lines.{behind, behind_space, judged_text, number_from, number_of, process_of, text_behind, report_lines}
pub use Sentences.{bad_sentence, broken_by, deed_of, entered_before, entered_beside, good_sentence, law_broken, other_process, process_words, sentence_of}
pub use Verdicts.{SeenLine, SeenVerdict, bad_entry, judged_line, last_line, naming, pointer_of, seen_line, seen_verdict, title_of, verdict_lines, verdict_of, verdict_titles}
pub use declared.verdicts.FirstBadEntry.{FirstBadEntry}
pub use declared.verdicts.Pointer.{Pointer}
pub use declared.verdicts.PointerKind.{PointerKind}
pub use declared.verdicts.ShownVerdict.{ShownVerdict}
pub use declared.verdicts.VerdictLine.{VerdictLine}
