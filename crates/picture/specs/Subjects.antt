-- The subjects of pictures: a run, a record, or a trace.
use Rattle.std.specs.Prelude.{ℕ, Bool, true, false, List, codes}
use Rattle.picture.specs.declared.constants.TheConstants.{SCRIPT, TRACE_SCRIPT}
use Rattle.picture.specs.declared.legends.TheConstants.{ACCESS_LEGEND, LEGEND, READS_LEGEND, TRACE_ACCESS_LEGEND, TRACE_LEGEND}
use Rattle.picture.specs.declared.reads.Reads.{Reads}
use Rattle.picture.specs.declared.reads.Reads.TheVariants.{All, Hidden, Shown}
use Rattle.picture.specs.declared.subjects.TheConstants.{DESCRIPTION, TRACE_DESCRIPTION}
use Rattle.picture.specs.declared.subjects.Subject.{Subject}
use Rattle.picture.specs.declared.subjects.Subject.TheVariants.{Record, Run, Trace}

-- whether the lowest lane is a history
abbrev pub has_history : Subject → Bool
has_history Run = true
has_history Record = true
has_history Trace = false

-- the word with which the heading begins
abbrev pub subject_word : Subject → List ℕ
subject_word Run = codes "Run"
subject_word Record = codes "Record"
subject_word Trace = codes "Trace"

-- the first word of the file, which names its format
abbrev pub format_word : Subject → List ℕ
format_word Run = codes "bakery"
format_word Record = codes "record"
format_word Trace = codes "trace"

-- what the axis counts
abbrev pub time_unit : Subject → List ℕ
time_unit Run = codes "events"
time_unit Record = codes "events"
time_unit Trace = codes "entries"

-- the description of one picture: what it shows
abbrev pub shown_by : Subject → List ℕ
shown_by Run = DESCRIPTION.now
shown_by Record = DESCRIPTION.now
shown_by Trace = TRACE_DESCRIPTION.now

-- the legend
abbrev pub legend_of : Subject → Reads → List ℕ
legend_of Run Hidden = LEGEND.now
legend_of Run Shown = READS_LEGEND.now
legend_of Run All = ACCESS_LEGEND.now
legend_of Record Hidden = LEGEND.now
legend_of Record Shown = READS_LEGEND.now
legend_of Record All = ACCESS_LEGEND.now
legend_of Trace Hidden = TRACE_LEGEND.now
legend_of Trace Shown = TRACE_LEGEND.now
legend_of Trace All = TRACE_ACCESS_LEGEND.now

-- the part of a page before its list of lines: the end of the legend, and the name of what is listed
abbrev pub list_begun : Subject → List ℕ
list_begun Run = codes "\n</svg>\n<details open><summary>The scenario</summary><ol>\n"
list_begun Record = codes "\n</svg>\n<details open><summary>The record</summary><ol>\n"
list_begun Trace = codes "\n</svg>\n<details open><summary>The trace</summary><ol>\n"

-- the script of a page; the script for a trace shows no store and no line of tickets
abbrev pub script_of : Subject → List ℕ
script_of Run = SCRIPT.now
script_of Record = SCRIPT.now
script_of Trace = TRACE_SCRIPT.now
