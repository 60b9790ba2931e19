-- What was written of a canvas, what is read back of it, and what it keeps.
use Rattle.std.specs.Prelude.{◌≡◌, ℕ, true, List, [], ◌++◌, Option}
use Rattle.std.specs.Io.KnownBytes.{Appends}
use Rattle.model.specs.plain_store.{Setup, opening_store}
use Rattle.model.specs.{Mark, Past}
use Rattle.picture.specs.{Form, Item, SeenWindowed, Window, WindowPlan, bands_reported, full_reported, heights_reported, held, judged_with, seen_windowed, windowed}
use Rattle.picture.specs.picture_layout.{OverlappedRead}
use Rattle.picture.specs.{ShownVerdict}
use Rattle.picture.specs.declared.reads.Reads.{Reads as Mode}
use Rattle.picture.specs.declared.subjects.Subject.TheVariants.{Run, Trace}
use Rattle.picture.specs.markup.{EndsAll, is_at_rest, lines_in, tags_of}
use Rattle.draw.specs.Items.{Gives, Says, end_given, given, lines_given, marks_after, says_marks, texts_shown, waiting}
use Rattle.draw.specs.Overlaps.{ObservesAll}
use Rattle.draw.specs.StoreChanges.{words_by}
use Rattle.draw.specs.TakenStores.{IsAfterMarks}
use Rattle.draw.specs.declared.canvas.Canvas.{Canvas}
use Rattle.draw.specs.declared.taken_store.TakenStore.{TakenStore}

-- what is known from the start of a picture that shows a window
abbrev pub plan_of : Form → Window → Setup → WindowPlan
plan_of form w s = record {
  form = form;
  subject = Run;
  processes = s.processes;
  opening = words_by (opening_store s).pairs;
  window = w;
}

-- and of the picture of a trace, which has no store
abbrev pub trace_plan : Form → ℕ → Window → WindowPlan
trace_plan form processes w = record { form = form; subject = Trace; processes = processes; opening = []; window = w }

-- This markup was written. However it goes on, what is read of it stays as it is.
pub record Writes (old new : Option (List ℕ)) (markup : List ℕ) : Type 0 where
  pub rests : is_at_rest (tags_of markup) ≡ true
  pub taken : Appends old new markup

-- This markup was written, in which each element that begins ends, and these are the titles of its marks.
pub record Draws (old new : Option (List ℕ)) (markup : List ℕ) (lines : List (List ℕ)) : Type 0 where
  pub ended : EndsAll markup
  pub read_back : lines_in markup ≡ lines
  pub writes : Writes old new markup

-- a page under way: its window, the lines that it holds back, and all that it keeps
pub record Kept : Type 0 where
  pub window : Window
  pub lines : List (List ℕ)
  pub page : SeenWindowed

abbrev pub kept : Canvas → Kept
kept canvas = record { window = canvas.page.window; lines = held canvas.page; page = seen_windowed canvas.page }

-- before the first item
abbrev pub kept_at_first : WindowPlan → Kept
kept_at_first plan = record { window = plan.window; lines = []; page = windowed plan [] }

-- a page took in items that are these, and this markup is the bands that are full by them
pub record Fills (old new : SeenWindowed) (markup : List ℕ) (gives : List Gives) : Type 0 where
  pub items : List Item
  pub are : given items ≡ gives
  pub goes_on : (plan : WindowPlan) (before : List Item) → old ≡ windowed plan before →
      (new ≡ windowed plan (items ++ before)) × (full_reported plan (items ++ before) ≡ full_reported plan before ++ markup)

-- Markup was written, where some lines were held back before, and some are now. Only the lines in the window are drawn.
pub record DrawsOn (had has : Kept) (old new : Option (List ℕ)) (gives : List Gives) : Type 0 where
  pub markup : List ℕ
  pub drawn : List (List ℕ)
  pub draws : Draws old new markup drawn
  pub window : has.window ≡ had.window
  pub goes_on : drawn ++ has.lines ≡ had.lines ++ texts_shown had.window gives
  pub fills : Fills had.page has.page markup gives

-- what was held back was written, and the last items
pub record DrawsRest (had : Kept) (old new : Option (List ℕ)) (gives : List Gives) (height : ℕ) : Type 0 where
  pub markup : List ℕ
  pub draws : Draws old new markup (had.lines ++ texts_shown had.window gives)
  pub items : List Item
  pub are : given items ≡ gives
  pub ends : (plan : WindowPlan) (before : List Item) → had.page ≡ windowed plan before →
      (bands_reported plan (items ++ before) ≡ full_reported plan before ++ markup) × (height ≡ heights_reported plan (items ++ before))

-- all bands were written, whose heights come to so much
pub record DrawsBands (plan : WindowPlan) (old new : Option (List ℕ)) (gives : List Gives) (height : ℕ) : Type 0 where
  pub items : List Item
  pub are : given items ≡ gives
  pub draws : Draws old new (bands_reported plan items) (texts_shown plan.window gives)
  pub heights : height ≡ heights_reported plan items

-- lines made by one line of the list were drawn, and before them the reads that waited; none waits behind a line
abbrev pub DrawsLines : Canvas → Canvas → Option (List ℕ) → Option (List ℕ) → (source at : ℕ) → List Says → Type 0
DrawsLines had has old new source at lines =
    (mode : Mode) (s : Setup) (past : Past) (reads : List OverlappedRead) → ObservesAll mode s past reads had.overlaps →
    DrawsOn (kept had) (kept has) old new (lines_given mode source at reads lines) × ObservesAll mode s past (waiting lines reads) has.overlaps

-- so were the lines of a process's marks that come after other marks, and the store is the one after them
abbrev pub DrawsMarks : Canvas → Canvas → TakenStore → TakenStore → Option (List ℕ) → Option (List ℕ) → (source at : ℕ) → ℕ → List Mark → Type 0
DrawsMarks had has store stores old new source at p marks =
    (s : Setup) (before : List (ℕ × Mark)) → IsAfterMarks s before store → DrawsLines had has old new source at (says_marks s p before marks) × IsAfterMarks s (marks_after p marks before) stores

-- All up to the end of the picture was drawn, except for the verdict, if there is one.
abbrev pub DrawsUpToVerdict : Canvas → Canvas → Option (List ℕ) → Option (List ℕ) → (source at : ℕ) → List ℕ → Says → Option ShownVerdict → Type 0
DrawsUpToVerdict had has old new source at reported last verdict =
    (mode : Mode) (s : Setup) (past : Past) (reads : List OverlappedRead) → ObservesAll mode s past reads had.overlaps →
    (gives : List Gives) × DrawsOn (kept had) (kept has) old new gives × (gives ++ given (judged_with at verdict []) ≡ end_given mode source at reads reported last)

-- The end of the picture was drawn, and all that was held back.
abbrev pub DrawsLast : Canvas → Option (List ℕ) → Option (List ℕ) → (source at : ℕ) → List ℕ → Says → ℕ → Type 0
DrawsLast had old new source at reported last height =
    (mode : Mode) (s : Setup) (past : Past) (reads : List OverlappedRead) → ObservesAll mode s past reads had.overlaps → DrawsRest (kept had) old new (end_given mode source at reads reported last) height
