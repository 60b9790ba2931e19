-- The bytes that are written of a run's picture, and the lines that are read back from them.
use Rattle.std.specs.Prelude.{◌≡◌, ◌<◌, ℕ, List, [], flat_map, Option, Some, IfSome, Result, Ok, Err}
use Rattle.std.specs.Io.KnownBytes.{IsAtEnd}
use Rattle.model.specs.plain_store.{Setup}
use Rattle.model.specs.{Past}
use Rattle.scenario.specs.files.Engines.{Ran, Streams}
use Rattle.scenario.specs.files.{Fault}
use Rattle.scenario.specs.files.declared.faults.Fault.TheVariants as fault
use Rattle.scenario.specs.{Line, Script, scenario_of}
use Rattle.picture.specs.markup.{lines_in, opens_in}
use Rattle.picture.specs.{Form, Item, all_entries, heights_reported, line_contents}
use Rattle.picture.specs.picture_layout.{marks_in, marks_said}
use Rattle.picture.specs.declared.page.Form.TheVariants as form
use Rattle.picture.specs.declared.reads.PictureOptions.{PictureOptions}
use Rattle.picture.specs.declared.reads.Reads.{Reads as Mode}
use Rattle.scenario_run.specs.{ScenarioRunState, Follows, Happening, Run, Summary, TurnReport, entry_made, happenings, newest_words, past_after, replay_text, replayed, run_after}
use Rattle.scenario_run.specs.declared.reports.TurnReport.TheVariants as reported
use Rattle.scenario_run.specs.Writing.{Counts}
use Rattle.draw.specs.Canvases.{DrawsBands, Kept, Writes, kept, plan_of}
use Rattle.draw.specs.Drawings.{DrawsPart, HasDrawn, Recalls}
use Rattle.draw.specs.Items.{Part, PartEntry, PartLine, SaysRefusal, SaysStore, SaysTired, entries_among, given, texts_shown}
use Rattle.draw.specs.Overlaps.{ReportsEnd}
use Rattle.draw.specs.PictureForm.{EndsPage}
use Rattle.draw.specs.Pictures.{ended_lines, lines_reported, opening_of, picture_of}
use Rattle.draw.specs.RunItems.{parts_of, run_given}
use Rattle.draw.specs.Views.{full_view}
use Rattle.draw.specs.declared.runs.drawing.RunDrawing.{RunDrawing}
use Rattle.draw.specs.declared.views.AccessView.{AccessView}

-- Markup is the picture of a window of the run of a file, and nothing else: that of items which are what the run gives, one by one. So the lines of all items are the text of the run, in order, and say the marks of its record. The height of one picture is that of such a picture.
pub record IsRunPicture (options : PictureOptions) (form : Form) (file : List ℕ) (said : Script) (markup : List ℕ) : Type 0 where
  pub items : List Item
  pub are : given items ≡ run_given (full_view options) said
  pub lines : ended_lines (lines_reported items) ≡ replayed said
  pub marks : flat_map marks_said (line_contents items) ≡ marks_in (past_after said.setup (happenings said))
  pub first : List Item
  pub same_items : given first ≡ run_given (full_view options) said
  pub same_lines : ended_lines (lines_reported first) ≡ replayed said
  pub same_marks : flat_map marks_said (line_contents first) ≡ marks_in (past_after said.setup (happenings said))
  pub is : markup ≡ picture_of options form file said (heights_reported (plan_of form options.window said.setup) first) items

-- A whole picture was written: it is the picture of a window of the run of a file, and nothing else; its tags fit, and no element is open at its end; and the titles of its marks, read back, are the lines of the run in the window. If the window is all entries, these are all lines of the run.
pub record DrawsAll (options : PictureOptions) (form : Form) (file : List ℕ) (said : Script) (old new : Option (List ℕ)) : Type 0 where
  pub markup : List ℕ
  pub page : IsRunPicture options form file said markup
  pub elements : opens_in markup (Some []) ≡ Some []
  pub read_back : lines_in markup ≡ texts_shown options.window (run_given (full_view options) said)
  pub all_read_back : options.window ≡ all_entries → ended_lines (lines_in markup) ≡ replayed said
  pub writes : Writes old new markup

-- the bands of a run were written between a head and an end
pub record DrawsFramed (options : PictureOptions) (form : Form) (head ending : List ℕ) (said : Script) (old new : Option (List ℕ)) : Type 0 where
  pub begun : Option (List ℕ)
  pub drawn : Option (List ℕ)
  pub height : ℕ
  pub first : Writes old begun head
  pub bands : DrawsBands (plan_of form options.window said.setup) begun drawn (run_given (full_view options) said) height
  pub last : Writes drawn new ending

-- the page of a run was written, with this start
pub record DrawsPage (options : PictureOptions) (head : List ℕ) (said : Script) (old new : Option (List ℕ)) : Type 0 where
  pub begun : Option (List ℕ)
  pub drawn : Option (List ℕ)
  pub height : ℕ
  pub first : Writes old begun head
  pub bands : DrawsBands (plan_of form.Page options.window said.setup) begun drawn (run_given (full_view options) said) height
  pub last : EndsPage (opening_of options.window said) drawn new

-- The numbers that a drawing has counted so far. The commands taken are counted at the end.
abbrev pub tally : RunDrawing → Summary
tally run = record { events = run.drawing.entries; taken = 0; refused = run.refused }

-- the part that a turn reports
abbrev pub part_reported : TurnReport → Part
part_reported (reported.Accepted made) = PartEntry (entry_made made)
part_reported (reported.Refused p refusal) = PartLine (SaysRefusal p refusal)
part_reported (reported.Tired p) = PartLine (SaysTired p)
part_reported (reported.Shown store) = PartLine (SaysStore (newest_words store))

-- a turn that reports an accepted event reports whether the event ends an overlapped read, if reads are shown
abbrev pub ReportsReads : Mode → Setup → Past → TurnReport → Type 0
ReportsReads mode s past (reported.Accepted made) = ReportsEnd mode s past made.access made.overlapped
ReportsReads mode s past answer = Unit {0}

-- the part that a turn reports was drawn, whatever parts came before it
abbrev pub DrawsReported : RunDrawing → RunDrawing → TurnReport → Option (List ℕ) → Option (List ℕ) → Type 0
DrawsReported had has answer old new =
    (view : AccessView) (s : Setup) (parts : List Part) → ReportsReads view.reads s (entries_among parts) answer → Recalls view s parts had.drawing → DrawsPart view s parts (part_reported answer) had.drawing has.drawing old new

-- All that has happened in a run since `start` was counted and drawn.
pub record HasDrawnRun (view : AccessView) (s : Setup) (start : List Part) (had : Kept) (old : Option (List ℕ)) (now : List Happening) (run : RunDrawing) (new : Option (List ℕ)) : Type 0 where
  pub counts : Counts s now (tally run)
  pub drawn : HasDrawn view s start had old (parts_of s now) run.drawing new

-- a drawing that came after `before` comes after `after`, wherever it began
abbrev pub GoesOnDrawing : Setup → List Happening → List Happening → RunDrawing → RunDrawing → Option (List ℕ) → Option (List ℕ) → Type 0
GoesOnDrawing s before after drawing drawings taken then =
    (view : AccessView) (start : List Part) (had : Kept) (old : Option (List ℕ)) → HasDrawnRun view s start had old before drawing taken → HasDrawnRun view s start had old after drawings then

-- the steps from one run to another: the state of the scenario run, and what was drawn
pub record Advances (view : AccessView) (s : Setup) (before after : Run) (scenario_run : ScenarioRunState) (drawing drawings : RunDrawing) (old new : Option (List ℕ)) : Type 0 where
  pub follows : Follows scenario_run after
  pub setup : scenario_run.world.setup ≡ s
  pub drawn : HasDrawnRun view s (parts_of s before.happened) (kept drawing.drawing.canvas) old after.happened drawings new

-- a line of a scenario has made all its turns, whatever has happened before
abbrev pub DrawsLine : Line → ScenarioRunState → ScenarioRunState → RunDrawing → RunDrawing → Option (List ℕ) → Option (List ℕ) → Type 0
DrawsLine line old new drawing drawings taken then =
    (view : AccessView) (run : Run) → Follows old run → Counts old.world.setup run.happened (tally drawing) → Recalls view old.world.setup (parts_of old.world.setup run.happened) drawing.drawing →
    Advances view old.world.setup run (run_after old.world.setup line run) new drawing drawings taken then

-- How `draw` ends. If it succeeds, it has written a picture of a window of the whole run; after a fault of the input, it has written nothing.
abbrev pub DrewRun : PictureOptions → Form → Result (Unit {0}) Fault → Streams → Streams → Type 0
DrewRun options form (Ok done) old new =
    IfSome old.to_come (λ input. (said : Script) × (scenario_of input ≡ Ok said) × (replay_text input ≡ Ok (replayed said)) × DrawsAll options form input said old.taken new.taken)
    × IsAtEnd new.to_come
DrewRun options form (Err (fault.Line f)) old new = Ran replay_text (Err (fault.Line f)) old new
DrewRun options form (Err fault.Read) old new = Ran replay_text (Err fault.Read) old new
DrewRun options form (Err fault.Write) old new = old.write_failures < new.write_failures
DrewRun options form (Err fault.Memory) old new = Unit {0}
