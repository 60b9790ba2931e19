-- What holds while a record is read and drawn line by line, and how that ends.
use Rattle.std.specs.Prelude.{◌≡◌, ◌<◌, ◌≤◌, ℕ, true, List, [], ◌∷◌, ◌++◌, codes, flat_map, length, reverse, Option, None, Some, IfSome, Result, Ok, Err}
use Rattle.std.specs.Io.KnownBytes.{IsAtEnd, Keeps}
use Rattle.scenario.specs.files.Engines.{Streams}
use Rattle.scenario.specs.files.{Fault, FaultKind, UnlessMemory}
use Rattle.scenario.specs.files.declared.faults.Fault.TheVariants as fault
use Rattle.model.specs.plain_store.{Setup}
use Rattle.model.specs.{Entry, Past}
use Rattle.judge.specs.record_file.{Progress, Said, cleared, entry_in, head_words, record_of}
use Rattle.judge.specs.record_file.scenario.{printed_line}
use Rattle.judge.specs.{IsOfRecord}
use Rattle.picture.specs.{Form, Item, all_entries, bands_reported, heights_reported, page_back, page_front, page_names, picture_back, picture_front, line_contents}
use Rattle.picture.specs.picture_layout.{marks_in, marks_said}
use Rattle.picture.specs.declared.page.Form.TheVariants as form
use Rattle.picture.specs.declared.reads.PictureOptions.{PictureOptions}
use Rattle.picture.specs.declared.reads.Reads.{Reads as Mode}
use Rattle.picture.specs.markup.{lines_in, opens_in}
use Rattle.picture.specs.declared.subjects.Subject.TheVariants as subject
use Rattle.draw.specs.Drawings.{HasDrawn}
use Rattle.draw.specs.Overlaps.{Monitors}
use Rattle.draw.specs.RecordItems.{entry_parts, record_end, record_gives, record_lines, source_of}
use Rattle.draw.specs.Canvases.{DrawsBands, Writes, kept_at_first, plan_of}
use Rattle.draw.specs.Items.{entries_among, given, given_all, texts_shown}
use Rattle.draw.specs.StoreChanges.{store_words}
use Rattle.draw.specs.StoresBefore.{store_before}
use Rattle.draw.specs.Views.{IsDecided, long_view, most_stored, record_view}
use Rattle.draw.specs.declared.records.drawing.RecordDrawing.{RecordDrawing}
use Rattle.draw.specs.declared.records.sheet.DrawnEntry.{DrawnEntry}
use Rattle.draw.specs.declared.records.sheet.RecordPicture.{RecordPicture}
use Rattle.draw.specs.declared.records.stored.RecordEntries.{RecordEntries}
use Rattle.draw.specs.declared.views.AccessView.{AccessView}

-- the lines that a page lists: the headings and the opening pairs of the record, and one line for all entries
abbrev pub listed : Setup → List ℕ
listed s = flat_map printed_line (head_words s) ++ codes "(entries)\n"

-- A record's picture, as bytes: the items in its window, between a front and a back. The slider of a page begins with the store before the window.
abbrev pub picture_of : AccessView → Form → Setup → Past → List Item → List ℕ
picture_of view form.Page s past items =
    (page_front subject.Record s (listed s) view.reads ++ bands_reported (plan_of form.Page view.window s) items)
    ++ page_back (store_words (store_before view.window s past))
picture_of view (form.Picture top) s past items =
    (picture_front subject.Record s (heights_reported (plan_of (form.Picture top) view.window s) items) view.reads
    ++ bands_reported (plan_of (form.Picture top) view.window s) items)
    ++ picture_back (heights_reported (plan_of (form.Picture top) view.window s) items) view.reads

-- Markup is the picture of a window of a record with this report of a judge, or with none, and nothing else: its items are those of the record, one by one. So all items say its marks.
pub record IsRecordPicture (view : AccessView) (form : Form) (said : Said) (reported markup : List ℕ) : Type 0 where
  pub items : List Item
  pub are : given items ≡ record_gives view said reported
  pub marks : flat_map marks_said (line_contents items) ≡ marks_in (reverse said.entries)
  pub is : markup ≡ picture_of view form said.setup (reverse said.entries) items

-- A whole picture of a window of a record was written, with this report of a judge, and nothing else. Its tags fit, and no element is open at its end. The titles of its marks, read back, are the lines in the window. If the window is all entries, these are the marks of the record, in their order, the judge's report, line by line, and a last line.
pub record DrawsSaid (view : AccessView) (form : Form) (said : Said) (reported : List ℕ) (old new : Option (List ℕ)) : Type 0 where
  pub markup : List ℕ
  pub picture : IsRecordPicture view form said reported markup
  pub elements : opens_in markup (Some []) ≡ Some []
  pub read_back : lines_in markup ≡ texts_shown view.window (record_gives view said reported)
  pub all_read_back : view.window ≡ all_entries → lines_in markup ≡ record_lines said reported
  pub writes : Writes old new markup

-- The options and the number of entries that are shown decide what the picture shows.
abbrev pub DrawsAsked : PictureOptions → Form → Said → List ℕ → Option (List ℕ) → Option (List ℕ) → Type 0
DrawsAsked asked form said = DrawsSaid (record_view asked (length said.entries)) form said

-- The picture of the record that a text says, without a judge.
abbrev pub DrawsRecord : PictureOptions → Form → List ℕ → Option (List ℕ) → Option (List ℕ) → Type 0
DrawsRecord asked form text old new = IsOfRecord (λ s entries numbers. DrawsAsked asked form (record { setup = s; entries = entries }) [] old new) text

-- These entries of a record are shown: all of them, which keep all laws, or those up to the first that breaks one.
pub data Shows (Keeps : List Entry → Type 0) (entries shown : List Entry) : Type 0 where
  All : shown ≡ entries → Keeps entries → Shows Keeps entries shown
  UpTo : (before : List Entry) (e : Entry) (later : List Entry) → shown ≡ before ++ e ∷ [] → entries ≡ shown ++ later → Keeps before → (Keeps shown → ⊥) → Shows Keeps entries shown

-- this holds of the entries that are shown and of the judge's report on the whole record, whose entries lie in the lines with these numbers
pub record IsJudged (Keeps : Setup → List Entry → Type 0) (Reports : Setup → List Entry → List ℕ → List ℕ → ℕ → Type 0) (status : ℕ) (P : Said → List ℕ → Type 0) (s : Setup) (entries : List Entry) (numbers : List ℕ) : Type 0 where
  pub reported : List ℕ
  pub reports : Reports s entries numbers reported status
  pub shown : List Entry
  pub shows : Shows (Keeps s) entries shown
  pub is : P (record { setup = s; entries = shown }) reported

-- The picture of the record that a text says, up to the first entry that breaks a law, with the judge's report on that record.
abbrev pub DrawsJudged : (Setup → List Entry → Type 0) → (Setup → List Entry → List ℕ → List ℕ → ℕ → Type 0) → PictureOptions → Form → ℕ → List ℕ → Option (List ℕ) → Option (List ℕ) → Type 0
DrawsJudged Keeps Reports asked form status text old new = IsOfRecord (IsJudged Keeps Reports status (λ said reported. DrawsAsked asked form said reported old new)) text

-- the part of a page before its bands was written; in one picture, this part is written later, once its height is known
pub record HeadsPage (reads : Mode) (s : Setup) (old new : Option (List ℕ)) : Type 0 where
  pub head : List ℕ
  pub is : head ≡ page_front subject.Record s (listed s) reads
  pub lines : lines_in head ≡ []
  pub opens : opens_in head (Some []) ≡ Some page_names
  pub writes : Writes old new head

abbrev pub Heads : Mode → Form → Setup → Option (List ℕ) → Option (List ℕ) → Type 0
Heads reads form.Page s old new = HeadsPage reads s old new
Heads reads (form.Picture top) s old new = new ≡ old

-- these entries of a record with this setup are drawn, except for the lines that are held back
pub record IsDrawn (view : AccessView) (form : Form) (s : Setup) (past : Past) (d : RecordDrawing) (old new : Option (List ℕ)) : Type 0 where
  pub source : d.drawing.source ≡ source_of s
  pub monitors : Monitors view.reads s (entries_among (entry_parts past)) d.monitor.monitor
  pub mid : Option (List ℕ)
  pub heads : Heads view.reads form s old mid
  pub drawn : HasDrawn view s [] (kept_at_first (plan_of form view.window s)) mid (entry_parts past) d.drawing new

-- they are stored, as long as the picture may be short, and nothing was written
pub record AreStored (asked : PictureOptions) (past : Past) (stored : List Entry) (old new : Option (List ℕ)) : Type 0 where
  pub few : length past ≤ most_stored asked
  pub are : stored ≡ reverse past
  pub unwritten : new ≡ old

-- or the view of a long record is decided on, and they are drawn in this view
pub record AreDrawn (asked : PictureOptions) (form : Form) (s : Setup) (past : Past) (d : RecordDrawing) (old new : Option (List ℕ)) : Type 0 where
  pub decided : IsDecided asked (length past)
  pub drawn : IsDrawn (long_view asked) form s past d old new

-- the entries are stored or drawn, depending on whether there is a drawing
abbrev pub AreShownBy : Option RecordDrawing → List Entry → PictureOptions → Form → Setup → Past → Option (List ℕ) → Option (List ℕ) → Type 0
AreShownBy None stored asked form s past old new = AreStored asked past stored old new
AreShownBy (Some d) stored asked form s past old new = AreDrawn asked form s past d old new

abbrev pub DrawsPast : PictureOptions → Form → RecordEntries → Setup → Past → Option (List ℕ) → Option (List ℕ) → Type 0
DrawsPast asked form e s past old new = AreShownBy e.drawing e.stored.items asked form s past old new

-- the entries are stored or drawn, by what was read; after an entry, the setup does not change
abbrev pub AreReadBy : Option RecordDrawing → List Entry → PictureOptions → Form → Option Progress → Past → Option (List ℕ) → Option (List ℕ) → Type 0
AreReadBy None stored asked form before past old new = AreStored asked past stored old new
AreReadBy (Some d) stored asked form None past old new = ⊥
AreReadBy (Some d) stored asked form (Some p) past old new = (p.ended ≡ true) × AreDrawn asked form p.head.setup past d old new

abbrev pub DrawsAt : PictureOptions → Form → RecordEntries → Option Progress → Past → Option (List ℕ) → Option (List ℕ) → Type 0
DrawsAt asked form e before past old new = AreReadBy e.drawing e.stored.items asked form before past old new

-- this was read, it said these entries, the newest first, each was taken, and they are stored or drawn
pub record Corresponds (t : RecordPicture) (before : Option Progress) (past : Past) (old new : Option (List ℕ)) : Type 0 where
  pub reader : t.reader ≡ before
  pub clear : cleared before ≡ before
  pub draws : DrawsAt t.options t.form t.entries before past old new

-- a line was read, and drawn if it is an entry
pub record GoesOn (line : Result (Option Progress) FaultKind) (t : RecordPicture) (past : Past) (old new : Option (List ℕ)) : Type 0 where
  pub now : Option Progress
  pub says : line ≡ Ok now
  pub corresponds : Corresponds t (cleared now) (entry_in now ++ past) old new

-- why a line is not drawn: its fault, a call that failed, or allocation failure
abbrev pub LineStops : Fault → ℕ → (FaultKind → Type 0) → Type 0
LineStops (fault.Line f) number says = (f.line ≡ number) × UnlessMemory f.kind (says f.kind)
LineStops fault.Write number says = Unit {0}
LineStops fault.Memory number says = Unit {0}
LineStops fault.Read number says = ⊥

-- the number of entries that are stored or drawn
abbrev pub count_by : Option RecordDrawing → List Entry → ℕ
count_by None stored = length stored
count_by (Some d) stored = d.drawing.entries

abbrev pub entries_of : RecordEntries → ℕ
entries_of e = count_by e.drawing e.stored.items

-- all bands of these entries and of a judge's report were written, with the part of a page before them
pub record EndsAt (view : AccessView) (form : Form) (s : Setup) (past : Past) (reported : List ℕ) (height : ℕ) (old new : Option (List ℕ)) : Type 0 where
  pub mid : Option (List ℕ)
  pub heads : Heads view.reads form s old mid
  pub bands : DrawsBands (plan_of form view.window s) mid new (given_all view s (source_of s) (entry_parts past) ++ record_end view s (source_of s) past reported) height

-- the bands were written in the view that the options ask for, and these are the words of the store before the window
pub record EndsAsked (asked : PictureOptions) (form : Form) (s : Setup) (past : Past) (reported : List ℕ) (shows : Mode) (opening : List ℕ) (height : ℕ) (old new : Option (List ℕ)) : Type 0 where
  pub shows_it : shows ≡ (record_view asked (length past)).reads
  pub opens : opening ≡ store_words (store_before (record_view asked (length past)).window s past)
  pub ends : EndsAt (record_view asked (length past)) form s past reported height old new

-- the bands of a record were written
pub record DrawsBandsOf (asked : PictureOptions) (form : Form) (drawn : DrawnEntry) (old new : Option (List ℕ)) (said : Said) (reported : List ℕ) : Type 0 where
  pub setup : drawn.setup ≡ said.setup
  pub ends : EndsAsked asked form said.setup (reverse said.entries) reported drawn.shows drawn.opening.items drawn.height old new

-- the bands of the record that a text says were written, without a judge
abbrev pub DrawsAllBands : PictureOptions → Form → DrawnEntry → Option (List ℕ) → Option (List ℕ) → List ℕ → Type 0
DrawsAllBands asked form drawn old new = IsOfRecord (λ s entries numbers. DrawsBandsOf asked form drawn old new (record { setup = s; entries = entries }) [])

-- why drawing ends early: a fault of what the input says, a call that failed, or allocation failure
abbrev pub IsDrawFault : Fault → Option (List ℕ) → Type 0
IsDrawFault (fault.Line f) to_come = IfSome to_come (λ text. UnlessMemory f.kind (record_of text ≡ Err f))
IsDrawFault fault.Read to_come = Unit {0}
IsDrawFault fault.Write to_come = Unit {0}
IsDrawFault fault.Memory to_come = Unit {0}

-- nothing was written of one picture; of a page, the part before the fault may have been written
abbrev pub LeavesNone : Form → Option (List ℕ) → Option (List ℕ) → Type 0
LeavesNone form.Page old new = Unit {0}
LeavesNone (form.Picture top) old new = Keeps old new

-- How drawing a record ends: with a picture of what the whole input says, or with a fault, which is the fault that judging it has. Each fault has its cause.
abbrev pub DrewAs : {A : Type 0} → (A → List ℕ → Option (List ℕ) → Option (List ℕ) → Type 0) → Form → Result A Fault → Streams → Streams → Type 0
DrewAs draws form (Ok done) old new = IfSome old.to_come (λ text. draws done text old.taken new.taken) × IsAtEnd new.to_come
DrewAs draws form (Err (fault.Line f)) old new = IfSome old.to_come (λ text. UnlessMemory f.kind (record_of text ≡ Err f)) × LeavesNone form old.taken new.taken
DrewAs draws form (Err fault.Read) old new = (old.read_failures < new.read_failures) × LeavesNone form old.taken new.taken
DrewAs draws form (Err fault.Write) old new = old.write_failures < new.write_failures
DrewAs draws form (Err fault.Memory) old new = Unit {0}

abbrev pub DrewRecord : PictureOptions → Form → Result (Unit {0}) Fault → Streams → Streams → Type 0
DrewRecord asked form = DrewAs (λ done. DrawsRecord asked form) form

-- How drawing a judged record ends, with the status that the judge returns.
abbrev pub DrewJudged : (Setup → List Entry → Type 0) → (Setup → List Entry → List ℕ → List ℕ → ℕ → Type 0) → PictureOptions → Form → Result ℕ Fault → Streams → Streams → Type 0
DrewJudged Keeps Reports asked form = DrewAs (DrawsJudged Keeps Reports asked form) form

-- where bytes are stored in memory, a failed write is an allocation failure
abbrev pub without_write : Fault → Fault
without_write fault.Write = fault.Memory
without_write other = other
