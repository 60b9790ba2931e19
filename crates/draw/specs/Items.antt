-- The items of a picture, as values: its lines, the reads that writes overlapped, accesses, and a verdict.
use Rattle.std.specs.Prelude.{ℕ, zero, suc, Bool, List, [], ◌∷◌, ◌++◌, flat_map, length, map, string_bytes, Option, None, Some, option_map}
use Rattle.model.specs.plain_store.{Setup}
use Rattle.model.specs.{Entry, Mark, Past, Refusal}
use Rattle.picture.specs.{Accesses, Item, Judges, Reads, SeenVerdict, Reports, Window, lines_if, seen_verdict, shows_after, shows_end, shows_entry, verdict_titles}
use Rattle.picture.specs.picture_layout.{GivenAccess, OverlappedRead, LineContent, given_access, like, lock_ended_text, lock_marked_text}
use Rattle.picture.specs.picture_layout.trace.{LockMark}
use Rattle.picture.specs.shown_verdict.{report_lines, verdict_of}
use Rattle.picture.specs.picture_layout.run_lines.{ended_text, marked_text, refused_text, shown_text, tired_text}
use Rattle.picture.specs.picture_layout.declared.line_contents.LineContent.TheVariants.{Marked, Refused, Tired, Shown, Ended, LockMarked, LockEnded}
use Rattle.picture.specs.declared.reads.Reads.{Reads as Mode}
use Rattle.draw.specs.Overlaps.{overlapped_by, shown_of}
use Rattle.draw.specs.StoreChanges.{Changed, changed}
use Rattle.draw.specs.TakenStores.{change_of}
use Rattle.draw.specs.declared.views.AccessView.{AccessView}
use Rattle.record_accesses.specs.{WaveLimit, shown_access}
use Rattle.picture.specs.declared.reads.Reads.TheVariants as modes

-- the content of a line
pub data Says : Type 0 where
  SaysMark : ℕ → Mark → Option Changed → Says  -- an event of the process has this mark; what its command changed
  SaysRefusal : ℕ → Refusal → Says  -- an event of the process was refused
  SaysTired : ℕ → Says  -- the process has made all the Steps of a `go`
  SaysStore : List ℕ → Says  -- the newest store, by these words
  SaysEnd : ℕ → ℕ → ℕ → Says  -- the end: the numbers of accepted events, of taken commands, and of refused events
  SaysLockMark : ℕ → LockMark → Says  -- an entry of a trace has this mark of the process
  SaysLockEnd : ℕ → Says  -- the end of a trace, with its number of entries

-- an item
pub data Gives : Type 0 where
  GivesLine : ℕ → ℕ → Says → Gives  -- the line of the list that makes it, the number of events accepted before it, and its content
  GivesRead : OverlappedRead → Gives  -- a read that a write overlapped
  GivesAccess : GivenAccess → Gives  -- the part of an access that an entry makes
  GivesVerdict : ℕ → SeenVerdict → Gives  -- the number of events accepted before it, and the verdict of a judge, with the last line

abbrev pub says_of : LineContent → Says
says_of (Marked p mark change) = SaysMark p mark (option_map changed change)
says_of (Refused p refusal) = SaysRefusal p refusal
says_of (Tired p) = SaysTired p
says_of (Shown words) = SaysStore (string_bytes words)
says_of (Ended events taken refused) = SaysEnd events taken refused
says_of (LockMarked p mark) = SaysLockMark p mark
says_of (LockEnded entries) = SaysLockEnd entries

-- the items of a picture in their order, from a list in which the newest item comes first
abbrev pub given : List Item → List Gives
given [] = []
given (Reports line ∷ before) = given before ++ GivesLine line.source line.at (says_of line.line_content) ∷ []
given (Reads read ∷ before) = given before ++ GivesRead read ∷ []
given (Accesses access ∷ before) = given before ++ GivesAccess (given_access access) ∷ []
given (Judges at verdict ∷ before) = given before ++ GivesVerdict at (seen_verdict verdict) ∷ []

-- the text of a line, without its end
abbrev pub says_text : ℕ → Says → List ℕ
says_text at (SaysMark p mark change) = marked_text at p mark
says_text at (SaysRefusal p refusal) = refused_text p refusal
says_text at (SaysTired p) = tired_text p
says_text at (SaysStore words) = shown_text words
says_text at (SaysEnd events taken refused) = ended_text events taken refused
says_text at (SaysLockMark p mark) = lock_marked_text at p mark
says_text at (SaysLockEnd entries) = lock_ended_text entries

-- the lines of items, without their ends
abbrev pub text_given : Gives → List (List ℕ)
text_given (GivesLine source at says) = says_text at says ∷ []
text_given (GivesRead read) = []
text_given (GivesAccess access) = []
text_given (GivesVerdict at verdict) = verdict_titles verdict

abbrev pub texts_given : List Gives → List (List ℕ)
texts_given = flat_map text_given

-- whether a line with this content, after `at` entries, is in a window
abbrev pub shows_says : Window → ℕ → Says → Bool
shows_says w at (SaysMark p mark change) = shows_entry w at
shows_says w at (SaysRefusal p refusal) = shows_after w at
shows_says w at (SaysTired p) = shows_after w at
shows_says w at (SaysStore words) = shows_after w at
shows_says w at (SaysEnd events taken refused) = shows_end w at
shows_says w at (SaysLockMark p mark) = shows_entry w at
shows_says w at (SaysLockEnd entries) = shows_end w at

-- the lines of items in a window, without their ends
abbrev pub text_shown : Window → Gives → List (List ℕ)
text_shown w (GivesLine source at says) = lines_if (shows_says w at says) (says_text at says ∷ [])
text_shown w (GivesRead read) = []
text_shown w (GivesAccess access) = []
text_shown w (GivesVerdict at verdict) = lines_if (shows_end w at) (verdict_titles verdict)

abbrev pub texts_shown : Window → List Gives → List (List ℕ)
texts_shown w = flat_map (text_shown w)

-- the marks of items, each with its process; a mark of a trace gives the mark of a record that it is drawn like
abbrev pub marks_says : Says → List (ℕ × Mark)
marks_says (SaysMark p mark change) = (p, mark) ∷ []
marks_says (SaysLockMark p mark) = (p, like mark) ∷ []
marks_says _ = []

abbrev pub mark_given : Gives → List (ℕ × Mark)
mark_given (GivesLine source at says) = marks_says says
mark_given (GivesRead read) = []
mark_given (GivesAccess access) = []
mark_given (GivesVerdict at verdict) = []

abbrev pub marks_given : List Gives → List (ℕ × Mark)
marks_given = flat_map mark_given

-- reads wait for the next line
abbrev pub waiting : {A : Type 0} → List A → List OverlappedRead → List OverlappedRead
waiting [] reads = reads
waiting (line ∷ lines) reads = []

-- lines that come from one line of the list, after `at` events, and before them the waiting reads, as far as they are shown
abbrev pub lines_given : Mode → ℕ → ℕ → List OverlappedRead → List Says → List Gives
lines_given mode source at reads [] = []
lines_given mode source at reads (line ∷ lines) = map GivesRead (shown_of mode reads) ++ map (GivesLine source at) (line ∷ lines)

-- The end of a picture. If a judge has reported, it is the verdict, with the report and the last line; otherwise it is the last line alone. The waiting reads come first, as far as they are shown.
abbrev pub end_given : Mode → ℕ → ℕ → List OverlappedRead → List ℕ → Says → List Gives
end_given mode source at reads [] last = lines_given mode source at reads (last ∷ [])
end_given mode source at reads (byte ∷ reported) last =
    map GivesRead (shown_of mode reads) ++ GivesVerdict at (verdict_of source (report_lines (byte ∷ reported)) (says_text at last)) ∷ []

-- Accesses.

-- the item for the shown part of an access, if any of it is shown
abbrev pub gives_access : Option GivenAccess → List Gives
gives_access None = []
gives_access (Some access) = GivesAccess access ∷ []

-- the item of the access of an entry that comes after a past, if all accesses are shown
abbrev pub given_access_of : Mode → WaveLimit → Setup → Past → Entry → List Gives
given_access_of modes.All limit s past e = gives_access (shown_access s limit past e)
given_access_of _ limit s past e = []

-- The entries of a run or of a record.

-- the marks after those of an entry of a process
abbrev pub marks_after : ℕ → List Mark → List (ℕ × Mark) → List (ℕ × Mark)
marks_after p [] before = before
marks_after p (mark ∷ marks) before = marks_after p marks ((p, mark) ∷ before)

-- the marks of all entries, the newest first
abbrev pub marks_back : Past → List (ℕ × Mark)
marks_back [] = []
marks_back (e ∷ past) = marks_after e.process e.marks (marks_back past)

-- the contents of the lines of a process's marks, which come after other marks
abbrev pub says_marks : Setup → ℕ → List (ℕ × Mark) → List Mark → List Says
says_marks s p before [] = []
says_marks s p before (mark ∷ marks) = SaysMark p mark (change_of s before p mark) ∷ says_marks s p ((p, mark) ∷ before) marks

-- The parts of a run or of a record, which are drawn one after the other. A list of parts begins with the newest.

-- one part
pub data Part : Type 0 where
  PartEntry : Entry → Part  -- an entry, with a line for each of its marks
  PartLine : Says → Part  -- a line that comes from no entry

-- the entries among parts
abbrev pub entries_among : List Part → Past
entries_among [] = []
entries_among (PartEntry e ∷ before) = e ∷ entries_among before
entries_among (PartLine says ∷ before) = entries_among before

-- the overlapped reads that have ended since the last line, in their order
abbrev pub reads_since : Setup → List Part → List OverlappedRead
reads_since s [] = []
reads_since s (PartEntry e ∷ before) = waiting e.marks (reads_since s before ++ overlapped_by s (entries_among before) e)
reads_since s (PartLine says ∷ before) = []

-- The items that a part gives, which comes after other parts and is made by the line `source` of the list. Those of an entry are its access, if all accesses are shown, and the lines of its marks, which join the column of the access.
abbrev pub given_of : AccessView → Setup → ℕ → List Part → Part → List Gives
given_of view s source before (PartEntry e) =
    given_access_of view.reads view.limit s (entries_among before) e
    ++ lines_given view.reads source (length (entries_among before)) (reads_since s before ++ overlapped_by s (entries_among before) e) (says_marks s e.process (marks_back (entries_among before)) e.marks)
given_of view s source before (PartLine says) = lines_given view.reads source (length (entries_among before)) (reads_since s before) (says ∷ [])

-- the items that the last `count` of these parts give
abbrev pub given_last : AccessView → Setup → ℕ → ℕ → List Part → List Gives
given_last view s source zero parts = []
given_last view s source (suc count) [] = []
given_last view s source (suc count) (part ∷ before) = given_last view s source count before ++ given_of view s source before part

-- the items that all of them give
abbrev pub given_all : AccessView → Setup → ℕ → List Part → List Gives
given_all view s source parts = given_last view s source (length parts) parts

-- the lines of a part that comes after `at` entries, without their ends
abbrev pub part_texts : ℕ → Part → List (List ℕ)
part_texts at (PartEntry e) = map (marked_text at e.process) e.marks
part_texts at (PartLine says) = says_text at says ∷ []

-- the lines of parts, in their order
abbrev pub parts_texts : List Part → List (List ℕ)
parts_texts [] = []
parts_texts (part ∷ before) = parts_texts before ++ part_texts (length (entries_among before)) part
