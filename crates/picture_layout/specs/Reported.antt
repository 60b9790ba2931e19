-- The lines of the text of a run or of a trace, as values.
use Rattle.std.specs.Prelude.{ℕ, Bool, true, false, List, map, string_bytes, Option, None, Some, option_map}
use Rattle.model.specs.{Mark}
use Rattle.model.specs.declared.marks.Mark.TheVariants.{Taken}
use Rattle.run_lines.specs.{ended_text, marked_text, refused_text, shown_text, tired_text}
use Rattle.picture_layout.specs.LockLines.{like, lock_ended_text, lock_marked_text}
use Rattle.picture_layout.specs.declared.columns.Column.{Column}
use Rattle.picture_layout.specs.declared.line_contents.TakenChange.{TakenChange}
use Rattle.picture_layout.specs.declared.line_contents.RunLine.{RunLine}
use Rattle.picture_layout.specs.declared.line_contents.LineContent.{LineContent}
use Rattle.picture_layout.specs.declared.line_contents.LineContent.TheVariants.{Marked, Refused, Tired, Shown, Ended, LockMarked, LockEnded}

-- the text of a line, if `at` events were accepted before it
abbrev pub content_text : ℕ → LineContent → List ℕ
content_text at (Marked p mark change) = marked_text at p mark
content_text at (Refused p refusal) = refused_text p refusal
content_text at (Tired p) = tired_text p
content_text at (Shown words) = shown_text (string_bytes words)
content_text at (Ended events taken refused) = ended_text events taken refused
content_text at (LockMarked p mark) = lock_marked_text at p mark
content_text at (LockEnded entries) = lock_ended_text entries

-- the text of a line, without its end
abbrev pub text_of : RunLine → List ℕ
text_of line = content_text line.at line.line_content

-- the texts of lines, without their ends
abbrev pub texts : List RunLine → List (List ℕ)
texts = map text_of

-- the texts of the lines of a column
abbrev pub reported_in : Column → List (List ℕ)
reported_in column = texts column.lines.items

-- the process of a line
abbrev pub process_reported : LineContent → Option ℕ
process_reported (Marked p mark change) = Some p
process_reported (Refused p refusal) = Some p
process_reported (Tired p) = Some p
process_reported (Shown words) = None
process_reported (Ended events taken refused) = None
process_reported (LockMarked p mark) = Some p
process_reported (LockEnded entries) = None

-- the mark of a line; for a trace, the mark that its mark is drawn like
abbrev pub mark_reported : LineContent → Option Mark
mark_reported (Marked p mark change) = Some mark
mark_reported (LockMarked p mark) = Some (like mark)
mark_reported _ = None

-- the change of the store by the command of a line
abbrev pub change_reported : LineContent → Option TakenChange
change_reported (Marked p mark change) = change
change_reported _ = None

-- the position in the history of a mark
abbrev pub place_marked : Mark → Option ℕ
place_marked (Taken place reply) = Some place
place_marked _ = None

-- the position in the history of a line
abbrev pub place_reported : LineContent → Option ℕ
place_reported (Marked p mark change) = place_marked mark
place_reported _ = None

-- whether a line is a refusal
abbrev pub reports_refusal : LineContent → Bool
reports_refusal (Refused p refusal) = true
reports_refusal _ = false

-- whether a line is a mark of a trace
abbrev pub reports_lock_mark : LineContent → Bool
reports_lock_mark (LockMarked p mark) = true
reports_lock_mark _ = false

-- the number of the event of a line, if the line has a mark
abbrev pub event_reported : RunLine → Option ℕ
event_reported line = option_map (λ mark. line.at) (mark_reported line.line_content)
