-- Columns as lists, and their content, given the lines and the reads that they show.
use Rattle.std.specs.Prelude.{◌≡◌, ℕ, ◌+◌, ◌*◌, max, min, Bool, true, false, ◌==◌, ◌&&◌, not, ◌||◌, nat_le, nat_lt, cond, List, [], ◌∷◌, ◌++◌, codes, filter_map, find, is_some, length, map, string_bytes, take, IfOk, Result, Option, None, Some, option_map, option_and_then}
use Rattle.std.specs.Fmt.{decimal}
use Rattle.std.specs.Global.{Vec}
use Rattle.std.specs.Option.{option_or, option_to_list}
use Rattle.model.specs.{Mark, mark_text, refusal_text}
use Rattle.model.specs.plain_store.{answer_text, command_text, reply_text}
use Rattle.model.specs.declared.marks.Mark.TheVariants.{Answered, Called, Taken}
use Rattle.trace.specs.{lock_mark_text}
use Rattle.picture_layout.specs.Accesses.{access_characters}
use Rattle.picture_layout.specs.LockLines.{lock_ended_text}
use Rattle.picture_layout.specs.Overlaps.{bit_text, saw_text}
use Rattle.picture_layout.specs.Reported.{change_reported, event_reported, place_reported, process_reported, reports_lock_mark}
use Rattle.picture_layout.specs.declared.accesses.ShownAccess.{ShownAccess}
use Rattle.picture_layout.specs.declared.columns.Column.{Column}
use Rattle.picture_layout.specs.declared.rows.TextRow.{TextRow}
use Rattle.picture_layout.specs.declared.reads.OverlappedRead.{OverlappedRead}
use Rattle.picture_layout.specs.declared.state.State.{State}
use Rattle.picture_layout.specs.declared.line_contents.TakenChange.{TakenChange}
use Rattle.picture_layout.specs.declared.line_contents.RunLine.{RunLine}
use Rattle.picture_layout.specs.declared.line_contents.LineContent.{LineContent}
use Rattle.picture_layout.specs.declared.line_contents.LineContent.TheVariants.{Ended, LockEnded, LockMarked, Marked, Refused, Shown, Tired}

-- words in one row: whether they are bold, their bytes, and the number of their characters
pub record Wording : Type 0 where
  pub is_verb : Bool
  pub text : List ℕ
  pub characters : ℕ

-- a column, with lists for its fields
pub record Seen : Type 0 where
  pub at : ℕ
  pub event : Option ℕ
  pub lane : Option ℕ
  pub gap : ℕ
  pub lines : List RunLine
  pub read : Option OverlappedRead
  pub access : Option ShownAccess
  pub rows : List Wording
  pub frees : Option ℕ
  pub after : State
  pub x : ℕ

-- a row as a list
abbrev pub wording : TextRow → Wording
wording row = record { is_verb = row.is_verb; text = row.text.items; characters = row.characters }

-- rows as lists
abbrev pub wordings : Vec TextRow → List Wording
wordings rows = map wording rows.items

-- a successful call gives these rows
abbrev pub GivesRows : {E : Type 0} → Result (Vec TextRow) E → List Wording → Type 0
GivesRows result rows = IfOk result (λ (given : Vec TextRow). wordings given ≡ rows)

-- a column as lists
abbrev pub seen : Column → Seen
seen column = record {
  at = column.at;
  event = column.event;
  lane = column.lane;
  gap = column.gap;
  lines = column.lines.items;
  read = column.read;
  access = column.access;
  rows = wordings column.rows;
  frees = column.frees;
  after = column.after;
  x = column.x;
}

-- words that are drawn whole: a byte is a character
abbrev pub worded : Bool → List ℕ → Wording
worded is_verb text = record { is_verb = is_verb; text = text; characters = length text }

-- bold words, and plain words
abbrev pub verb : List ℕ → Wording
verb = worded true

abbrev pub rest : List ℕ → Wording
rest = worded false

-- bold words, and plain words below them
abbrev pub verb_and_rest : List ℕ → List ℕ → List Wording
verb_and_rest above below = verb above ∷ rest below ∷ []

-- the words of a store as they are drawn: all of them, or the first 43 and three dots, U+2026, if there are more than 44
abbrev pub shortened : List ℕ → List ℕ
shortened words = cond (nat_le (length words) 44) words (take 43 words ++ 226 ∷ 128 ∷ 166 ∷ [])

-- the row of a store's words
abbrev pub row_shortened : List ℕ → Wording
row_shortened words = record { is_verb = false; text = shortened words; characters = min (length words) 44 }

-- the rows of words below a name
abbrev pub rows_named : List ℕ → List ℕ → List Wording
rows_named name words = verb name ∷ row_shortened words ∷ []

-- the bold words of a refusal, in the lane of its process or in that of the history
abbrev pub verb_refused : Bool → ℕ → List ℕ
verb_refused in_lane p = cond in_lane (codes "refused") (decimal p ++ codes " refused")

-- the numbers of commands taken and of events refused, in words
abbrev pub counts_text : (taken refused : ℕ) → List ℕ
counts_text taken refused = codes "taken " ++ decimal taken ++ codes " refused " ++ decimal refused

-- the rows of a mark alone in its column
abbrev pub rows_marked : Mark → List Wording
rows_marked (Called command) = verb_and_rest (codes "call") (command_text command)
rows_marked (Taken place reply) = verb_and_rest (codes "taken " ++ decimal place) (reply_text reply)
rows_marked (Answered answer) = verb_and_rest (codes "answer") (answer_text answer)
rows_marked mark = verb (mark_text mark) ∷ []

-- the rows of a line alone in its column, in the lane of its process or in that of the history
abbrev pub rows_reported : Bool → LineContent → List Wording
rows_reported in_lane (Marked p mark change) = rows_marked mark
rows_reported in_lane (Refused p refusal) = verb_and_rest (verb_refused in_lane p) (refusal_text refusal)
rows_reported in_lane (Tired p) = verb (codes "turns") ∷ []
rows_reported in_lane (Shown words) = rows_named (codes "show") (string_bytes words)
rows_reported in_lane (Ended events taken refused) = verb_and_rest (codes "end events " ++ decimal events) (counts_text taken refused)
rows_reported in_lane (LockMarked p mark) = verb (lock_mark_text mark) ∷ []
rows_reported in_lane (LockEnded entries) = verb (lock_ended_text entries) ∷ []

-- the row of a line that shares its column
abbrev pub row_by : LineContent → Option Wording
row_by (Marked p mark change) = Some (verb (mark_text mark))
row_by (LockMarked p mark) = Some (verb (lock_mark_text mark))
row_by _ = None

abbrev pub row_shared : RunLine → Option Wording
row_shared line = row_by line.line_content

-- the row of a line in a list, if the line has a mark
abbrev pub row_if_marked : RunLine → List Wording
row_if_marked line = option_to_list (row_shared line)

-- the lane of a process, if its number is below the number of processes
abbrev pub lane_among : ℕ → Option ℕ → Option ℕ
lane_among processes = option_and_then (λ p. cond (nat_lt p processes) (Some p) None)

-- the column of a line alone, before it is placed
abbrev pub alone : RunLine → ℕ → Option ℕ → State → Seen
alone line gap frees after = record {
  at = line.at;
  event = event_reported line;
  lane = lane_among after.processes (process_reported line.line_content);
  gap = gap;
  lines = line ∷ [];
  read = None;
  access = None;
  rows = rows_reported (is_some (lane_among after.processes (process_reported line.line_content))) line.line_content;
  frees = frees;
  after = after;
  x = 0;
}

-- the column of a read, before it is placed
abbrev pub column_of_read : OverlappedRead → ℕ → State → Seen
column_of_read read gap after = record {
  at = read.end;
  event = Some read.end;
  lane = lane_among after.processes (Some read.reader);
  gap = gap;
  lines = [];
  read = Some read;
  access = None;
  rows = verb_and_rest (saw_text read) (bit_text read);
  frees = None;
  after = after;
  x = 0;
}

-- the column of an access, before it is placed: a mark of its entry may join it
abbrev pub column_of_access : ShownAccess → ℕ → State → Seen
column_of_access access gap after = record {
  at = access.event;
  event = Some access.event;
  lane = lane_among after.processes (Some access.process);
  gap = gap;
  lines = [];
  read = None;
  access = Some access;
  rows = [];
  frees = None;
  after = after;
  x = 0;
}

-- whether these are the same event
abbrev pub is_same_event : Option ℕ → Option ℕ → Bool
is_same_event (Some e) (Some f) = e == f
is_same_event (Some e) None = false
is_same_event None event = false

-- whether a column has a row for a line: it has at most two marks of a trace
abbrev pub has_row_for : Seen → RunLine → Bool
has_row_for column line = not (reports_lock_mark line.line_content) || nat_lt (length column.lines) 2

-- whether a line is a mark of a column's event, for which it has a row
abbrev pub joins : Seen → RunLine → Bool
joins column line = elim column.read [ Some read ↦ false | None ↦ is_same_event column.event (event_reported line) && has_row_for column line ]

-- the rows of the lines of a column: those of a line alone, or one row for each of two marks
abbrev pub rows_of_lines : Bool → List RunLine → List Wording
rows_of_lines in_lane (line ∷ []) = rows_reported in_lane line.line_content
rows_of_lines in_lane lines = filter_map row_shared lines

-- the column after a mark of its event has joined it
abbrev pub joined : Seen → RunLine → Option ℕ → State → Seen
joined column line frees after = record column {
  lines = column.lines ++ line ∷ [];
  rows = rows_of_lines (is_some column.lane) (column.lines ++ line ∷ []);
  frees = option_or frees column.frees;
  after = after;
}

-- the first line with a position in the history, if there is one
abbrev pub taken_in : Seen → Option RunLine
taken_in column = find (λ line. is_some (place_reported line.line_content)) column.lines

-- a number of pixels, but 65535 if it is greater
abbrev pub capped : ℕ → ℕ
capped pixels = min pixels 65535

-- the number of digits of a number, or 0 without a number
abbrev pub digits_of : Option ℕ → ℕ
digits_of None = 0
digits_of (Some n) = length (decimal n)

-- the number of characters of the longest row
abbrev pub longest_row : List Wording → ℕ
longest_row [] = 0
longest_row (row ∷ rows) = max row.characters (longest_row rows)

-- the width of the words of a column in its lane, in pixels
abbrev pub width_of : Seen → ℕ
width_of column = capped (max (6 * digits_of column.event) (7 * max (longest_row column.rows) (access_characters column.access)) + 9)

-- the number of characters of the pair that a command changed
abbrev pub pair_of : Option TakenChange → ℕ
pair_of None = 0
pair_of (Some change) = length (string_bytes change.pair)

-- the width in the lane of the history of a line with a position in it, in pixels
abbrev pub knot_width : RunLine → ℕ
knot_width line = capped (max (6 * digits_of (place_reported line.line_content) + 14) (7 * pair_of (change_reported line.line_content) + 2) + 9)

-- the width of a column in the lane of the history, in pixels, if the column or a line of it lies there
abbrev pub width_below_of : Seen → Option ℕ
width_below_of column = elim column.lane [ None ↦ Some (capped (width_of column + 4)) | Some p ↦ option_map knot_width (taken_in column) ]

-- whether the event of a column settled a torn bit and took a command
abbrev pub settles_and_takes_in : Seen → Bool
settles_and_takes_in column = (length column.lines == 2) && is_some (taken_in column)
