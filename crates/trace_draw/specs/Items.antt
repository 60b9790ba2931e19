-- The items of a trace's picture: the accesses of its entries if they are shown, a line for each mark, a judge's lines, and a last line.
use Rattle.std.specs.Prelude.{ℕ, ◌+◌, Bool, true, false, List, [], ◌∷◌, ◌++◌, length, map, reverse, take, Option, None, Some}
use Rattle.draw.specs.{Gives, GivesAccess, GivesLine, Says, SaysLockEnd, SaysLockMark, end_given}
use Rattle.picture.specs.{Window, lines_if, shows_end, shows_entry}
use Rattle.picture.specs.picture_layout.{GivenAccess, lock_ended_text, lock_marked_text}
use Rattle.picture.specs.shown_verdict.{judged_text, report_lines}
use Rattle.picture.specs.declared.reads.PictureOptions.{PictureOptions}
use Rattle.picture.specs.declared.reads.Reads.{Reads}
use Rattle.picture.specs.declared.reads.Reads.TheVariants as reads
use Rattle.trace.specs.{TraceEntry, TracePast, TraceSetup}
use Rattle.trace_accesses.specs.{WaveLimit, shown_access}
use Rattle.trace_engine.specs.trace_judge.{TraceVerdict, verdict_of}
use Rattle.trace_engine.specs.trace_judge.declared.verdicts.TraceVerdict.TheVariants.{Good, Bad}
use Rattle.trace_draw.specs.Headings.{source_of}
use Rattle.trace_draw.specs.Views.{limit_of, view_of}

-- the entries that are shown by a verdict: all, or those up to the bad one
abbrev pub shown_by : TraceVerdict → List TraceEntry → List TraceEntry
shown_by Good entries = entries
shown_by (Bad k l) entries = take (k + 1) entries

-- the entries that are shown: of a judged trace, those by its verdict; otherwise all
abbrev pub shown : Bool → TraceSetup → List TraceEntry → List TraceEntry
shown false s entries = entries
shown true s entries = shown_by (verdict_of s entries) entries

-- the contents of the lines of an entry's marks
abbrev pub says_entry : TraceEntry → List Says
says_entry e = map (SaysLockMark e.process) e.marks

-- the item for the shown part of an access, if any of it is shown
abbrev pub gives_access : Option GivenAccess → List Gives
gives_access None = []
gives_access (Some access) = GivesAccess access ∷ []

-- the item of the access of an entry that comes after a past, if accesses are shown
abbrev pub given_access_of : Reads → WaveLimit → TraceSetup → TracePast → TraceEntry → List Gives
given_access_of reads.All limit s past e = gives_access (shown_access s limit past e)
given_access_of _ limit s past e = []

-- the items of an entry that comes after a past: first its access, and then its marks, which join the column of the access
abbrev pub given_entry : Reads → WaveLimit → TraceSetup → TracePast → TraceEntry → List Gives
given_entry mode limit s past e = given_access_of mode limit s past e ++ map (GivesLine (source_of s) (length past)) (says_entry e)

-- the items of all entries of a past
abbrev pub given_past : Reads → WaveLimit → TraceSetup → TracePast → List Gives
given_past mode limit s [] = []
given_past mode limit s (e ∷ past) = given_past mode limit s past ++ given_entry mode limit s past e

-- the end after n entries: the last line, or the verdict with it; no read waits
abbrev pub given_last : TraceSetup → List ℕ → ℕ → List Gives
given_last s reported n = end_given reads.Hidden (source_of s + 1) n [] reported (SaysLockEnd n)

-- all items of a trace of which these entries are shown, with this report of a judge
abbrev pub trace_gives : PictureOptions → TraceSetup → List TraceEntry → List ℕ → List Gives
trace_gives options s entries reported =
    given_past (view_of options (length entries)) (limit_of options) s (reverse entries)
    ++ given_last s reported (length entries)

-- The lines, without their ends. An access is not a line.

-- the lines of the marks of an entry with this number
abbrev pub lines_of_marks : ℕ → TraceEntry → List (List ℕ)
lines_of_marks n e = map (lock_marked_text n e.process) e.marks

-- the lines of the marks of entries, the first of which has this number
abbrev pub mark_lines : ℕ → List TraceEntry → List (List ℕ)
mark_lines n [] = []
mark_lines n (e ∷ entries) = lines_of_marks n e ++ mark_lines (n + 1) entries

-- the lines of the end of a trace of n entries
abbrev pub end_lines : ℕ → List ℕ → List (List ℕ)
end_lines n reported = map judged_text (report_lines reported) ++ lock_ended_text n ∷ []

-- all lines
abbrev pub trace_lines : List TraceEntry → List ℕ → List (List ℕ)
trace_lines entries reported = mark_lines 0 entries ++ end_lines (length entries) reported

-- The lines in a window.

-- the lines in a window of the marks of entries, the first of which has this number
abbrev pub shown_mark_lines : Window → ℕ → List TraceEntry → List (List ℕ)
shown_mark_lines w n [] = []
shown_mark_lines w n (e ∷ entries) =
    lines_if (shows_entry w n) (lines_of_marks n e) ++ shown_mark_lines w (n + 1) entries

-- all lines in a window
abbrev pub shown_lines : Window → List TraceEntry → List ℕ → List (List ℕ)
shown_lines w entries reported =
    shown_mark_lines w 0 entries
    ++ lines_if (shows_end w (length entries)) (end_lines (length entries) reported)
