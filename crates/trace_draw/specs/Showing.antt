-- The picture of a trace, as bytes, and what holds while a trace is read and drawn.
use Rattle.std.specs.Prelude.{◌≡◌, ◌≤◌, ℕ, max, Bool, true, false, List, [], ◌∷◌, ◌++◌, length, reverse, Option, None, Some}
use Rattle.draw.specs.{DrawsBands, DrawsOn, Writes, given, kept, kept_at_first, trace_plan}
use Rattle.picture.specs.{Form, Item, Window, all_entries, bands_reported, heights_reported, page_names, trace_page_back, trace_page_front, trace_picture_back, trace_picture_front}
use Rattle.picture.specs.declared.page.Form.TheVariants as form
use Rattle.picture.specs.declared.reads.PictureOptions.{PictureOptions}
use Rattle.picture.specs.declared.reads.Reads.{Reads}
use Rattle.picture.specs.declared.reads.Reads.TheVariants as reads
use Rattle.picture.specs.markup.{lines_in, opens_in}
use Rattle.trace.specs.{TraceEntry, TracePast, TraceSetup}
use Rattle.trace_accesses.specs.{HasMonitored, MonitorState, WaveLimit}
use Rattle.trace_engine.specs.{HasReported, ReportsTrace, count_by}
use Rattle.trace_draw.specs.Headings.{listed, source_of, title_of}
use Rattle.trace_draw.specs.Items.{given_entry, given_last, given_past, shown, shown_lines, trace_gives, trace_lines}
use Rattle.trace_draw.specs.Views.{IsDecided, limit_of, shows_all, view_of}
use Rattle.trace_draw.specs.declared.drawing.DrawnBands.{DrawnBands}
use Rattle.trace_draw.specs.declared.drawing.TraceDrawing.{TraceDrawing}
use Rattle.trace_draw.specs.declared.held.ShownEntries.{ShownEntries}
use Rattle.trace_draw.specs.declared.pictures.DrawnTrace.{DrawnTrace}
use Rattle.trace_draw.specs.declared.pictures.TracePicture.{TracePicture}
use Rattle.trace_draw.specs.declared.views.TraceView.{TraceView}

-- The picture of a trace, as bytes: the part before the bands, the bands of items in a window, and the part after the bands.
abbrev pub trace_picture_of : Form → Window → Reads → TraceSetup → List Item → List ℕ
trace_picture_of form.Page w mode s items =
    (trace_page_front s.processes (title_of s) (listed s) mode
    ++ bands_reported (trace_plan form.Page s.processes w) items)
    ++ trace_page_back
trace_picture_of (form.Picture top) w mode s items =
    (trace_picture_front (title_of s)
    (heights_reported (trace_plan (form.Picture top) s.processes w) items) mode
    ++ bands_reported (trace_plan (form.Picture top) s.processes w) items)
    ++ trace_picture_back (heights_reported (trace_plan (form.Picture top) s.processes w) items) mode

-- A whole picture was written, and nothing else: the part in the window of the items of these
-- entries and of the judge's report. Its tags fit, and no element is open at its end. The titles
-- of its marks, read back, are the lines of the entries in the window, in their order, and, if
-- the window reaches the end, the judge's report, line by line, and a last line. In the window
-- of all entries, they are the lines of all. The options and the number of entries decide which
-- accesses are among the items.
pub record DrawsTraceSaid (form : Form) (options : PictureOptions) (s : TraceSetup) (entries : List TraceEntry) (reported : List ℕ) (old new : Option (List ℕ)) : Type 0 where
  pub markup : List ℕ
  pub items : List Item
  pub are : given items ≡ trace_gives options s entries reported
  pub is : markup ≡ trace_picture_of form options.window (view_of options (length entries)) s items
  pub elements : opens_in markup (Some []) ≡ Some []
  pub read_back : lines_in markup ≡ shown_lines options.window entries reported
  pub all_read_back : options.window ≡ all_entries → lines_in markup ≡ trace_lines entries reported
  pub writes : Writes old new markup

-- the report on a trace, and the exit status: the report of a judge, or no report and 0
abbrev pub ReportsIfJudged : Bool → TraceSetup → List TraceEntry → List ℕ → List ℕ → ℕ → Type 0
ReportsIfJudged false s entries numbers reported status = (reported ≡ []) × (status ≡ 0)
ReportsIfJudged true s entries numbers reported status = ReportsTrace true s entries numbers reported status

-- this holds of the entries that are shown of a trace, and of the report on it
pub record IsReported (judged : Bool) (P : TraceSetup → List TraceEntry → List ℕ → Type 0) (status : ℕ) (s : TraceSetup) (entries : List TraceEntry) (numbers : List ℕ) : Type 0 where
  pub reported : List ℕ
  pub reports : ReportsIfJudged judged s entries numbers reported status
  pub is : P s (shown judged s entries) reported

-- the part of a page before its bands was written; in one picture, this part is written later, once its height is known
pub record HeadsPage (mode : Reads) (s : TraceSetup) (old new : Option (List ℕ)) : Type 0 where
  pub head : List ℕ
  pub is : head ≡ trace_page_front s.processes (title_of s) (listed s) mode
  pub lines : lines_in head ≡ []
  pub opens : opens_in head (Some []) ≡ Some page_names
  pub writes : Writes old new head

abbrev pub Heads : Form → Reads → TraceSetup → Option (List ℕ) → Option (List ℕ) → Type 0
Heads form.Page mode s old new = HeadsPage mode s old new
Heads (form.Picture top) mode s old new = new ≡ old

-- a monitor has observed the accesses of a past, if they are shown
abbrev pub Monitors : Reads → WaveLimit → TraceSetup → TracePast → Option MonitorState → Type 0
Monitors reads.All limit s past (Some monitor) = HasMonitored monitor s limit past
Monitors reads.All limit s past None = ⊥
Monitors _ limit s past (Some monitor) = ⊥
Monitors _ limit s past None = Unit {0}

-- the number of entries whose accesses a monitor has observed
abbrev pub monitored : Option MonitorState → ℕ
monitored = count_by (λ (monitor : MonitorState). monitor.entries)

-- A drawing comes after these entries of a trace with this setup: it counts them, and monitors their accesses if they are shown.
pub record ComesAfter (mode : Reads) (limit : WaveLimit) (s : TraceSetup) (past : TracePast) (d : TraceDrawing) : Type 0 where
  pub view : d.shows ≡ mode
  pub source : d.source ≡ source_of s
  pub count : d.entries ≡ length past
  pub hides : d.canvas.overlaps ≡ None
  pub monitors : Monitors mode limit s past d.monitor

-- one more entry was drawn
abbrev pub DrawsEntry : (had has : TraceDrawing) (old new : Option (List ℕ)) → TraceEntry → Type 0
DrawsEntry had has old new e =
    (mode : Reads) (limit : WaveLimit) (s : TraceSetup) (past : TracePast) → ComesAfter mode limit s past had →
    DrawsOn (kept had.canvas) (kept has.canvas) old new (given_entry mode limit s past e) × ComesAfter mode limit s (e ∷ past) has

-- these entries of a trace with this setup are drawn, except for the lines that are held back
pub record IsDrawn (form : Form) (options : PictureOptions) (mode : Reads) (s : TraceSetup) (past : TracePast) (d : TraceDrawing) (old new : Option (List ℕ)) : Type 0 where
  pub after : ComesAfter mode (limit_of options) s past d
  pub mid : Option (List ℕ)
  pub heads : Heads form mode s old mid
  pub drawn : DrawsOn (kept_at_first (trace_plan form s.processes options.window)) (kept d.canvas) mid new (given_past mode (limit_of options) s past)

-- the entries are stored, as long as the picture may be short, and nothing was written
pub record AreHeld (options : PictureOptions) (past : TracePast) (held : List TraceEntry) (old new : Option (List ℕ)) : Type 0 where
  pub undecided : shows_all options ≡ false
  pub few : length past ≤ 400
  pub are : held ≡ reverse past
  pub unwritten : new ≡ old

-- the entries are stored; or it is decided which accesses are shown, and they are drawn
abbrev pub AreShownBy : Option TraceDrawing → List TraceEntry → Form → PictureOptions → TraceSetup → TracePast → (old new : Option (List ℕ)) → Type 0
AreShownBy None held form options s past old new = AreHeld options past held old new
AreShownBy (Some d) held form options s past old new =
    (mode : Reads) × IsDecided options mode (length past) × IsDrawn form options mode s past d old new

abbrev pub AreShown : Form → PictureOptions → TraceSetup → TracePast → ShownEntries → (old new : Option (List ℕ)) → Type 0
AreShown form options s past e old new = AreShownBy e.drawing e.held.items form options s past old new

-- a picture, and what its output has taken
abbrev pub SoFar : Type 0
SoFar = TracePicture × Option (List ℕ)

-- The judge has observed these entries of a trace with this setup, and those that are shown are stored, or drawn since the output had taken `first`.
pub record HasShown (view : TraceView) (first : Option (List ℕ)) (h : SoFar) (s : TraceSetup) (entries : List TraceEntry) (numbers : List ℕ) : Type 0 where
  pub reported : HasReported view.judged h.0.reporter s entries numbers
  pub shows : AreShown view.form view.options s (reverse (shown view.judged s entries)) h.0.entries first h.1

-- the number of entries that a drawing has drawn; at most as many are monitored
abbrev pub drawn_count : TraceDrawing → ℕ
drawn_count d = max d.entries (monitored d.monitor)

-- the number of entries that were observed; at most as many are drawn
abbrev pub count_of : TracePicture → ℕ
count_of picture = max picture.reporter.judge.entries (count_by drawn_count picture.entries.drawing)

-- all bands of these entries and of the report were written, with the part of a page before them
pub record EndsBands (form : Form) (options : PictureOptions) (bands : DrawnBands) (s : TraceSetup) (past : TracePast) (reported : List ℕ) (old new : Option (List ℕ)) : Type 0 where
  pub view : bands.shows ≡ view_of options (length past)
  pub mid : Option (List ℕ)
  pub heads : Heads form bands.shows s old mid
  pub drawn : DrawsBands (trace_plan form s.processes options.window) mid new (given_past bands.shows (limit_of options) s past ++ given_last s reported (length past)) bands.height

-- the bands of these entries and of the report were written, with the title of the trace
pub record EndsTrace (form : Form) (options : PictureOptions) (drawn : DrawnTrace) (s : TraceSetup) (entries : List TraceEntry) (reported : List ℕ) (old new : Option (List ℕ)) : Type 0 where
  pub title : drawn.title.items ≡ title_of s
  pub ends : EndsBands form options drawn.bands s (reverse entries) reported old new
