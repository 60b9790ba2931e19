-- The items of a run's picture, and the bytes that are written of it.
use Rattle.std.specs.Prelude.{ℕ, List, [], ◌∷◌, ◌++◌, flat_map}
use Rattle.scenario.specs.{Script}
use Rattle.picture.specs.{Accesses, Form, Item, Judges, Reads, Reports, Window, bands_reported, page_back, page_front, picture_back, picture_front, seen_verdict, verdict_titles}
use Rattle.picture.specs.picture_layout.run_lines.{with_end}
use Rattle.picture.specs.picture_layout.{text_of}
use Rattle.picture.specs.declared.page.Form.TheVariants as form
use Rattle.picture.specs.declared.reads.PictureOptions.{PictureOptions}
use Rattle.picture.specs.declared.subjects.Subject.TheVariants as subject
use Rattle.draw.specs.Canvases.{plan_of}
use Rattle.draw.specs.StoreChanges.{store_words}
use Rattle.draw.specs.StoresBefore.{store_before}
use Rattle.scenario_run.specs.{happenings, past_after}

-- the lines of items in their order, from a list in which the newest item comes first
abbrev pub lines_reported : List Item → List (List ℕ)
lines_reported [] = []
lines_reported (Reports line ∷ before) = lines_reported before ++ text_of line ∷ []
lines_reported (Reads read ∷ before) = lines_reported before
lines_reported (Accesses access ∷ before) = lines_reported before
lines_reported (Judges at verdict ∷ before) = lines_reported before ++ verdict_titles (seen_verdict verdict)

-- the words of the store of a run before a window
abbrev pub opening_of : Window → Script → List ℕ
opening_of w said = store_words (store_before w said.setup (past_after said.setup (happenings said)))

-- A page, which lists the lines of its file, and one picture, by the height of its bands. Either shows the items in its window, and the page's slider begins with the store before it.
abbrev pub picture_of : PictureOptions → Form → List ℕ → Script → ℕ → List Item → List ℕ
picture_of options form.Page file said height items =
    (page_front subject.Run said.setup file options.reads ++ bands_reported (plan_of form.Page options.window said.setup) items)
    ++ page_back (opening_of options.window said)
picture_of options (form.Picture top) file said height items =
    (picture_front subject.Run said.setup height options.reads
    ++ bands_reported (plan_of (form.Picture top) options.window said.setup) items)
    ++ picture_back height options.reads

-- lines, each with its end
abbrev pub ended_lines : List (List ℕ) → List ℕ
ended_lines = flat_map with_end
