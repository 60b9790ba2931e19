-- Head, bands and end are the picture of a run.
use Rattle.std.proofs.Common.{◌≡◌, ℕ, List, [], ◌++◌, Option, Some, ap, ◌∙◌}
use Rattle.picture.specs.{Form, bands_reported, page_back, page_front, page_names, picture_back, picture_front}
use Rattle.picture.specs.markup.{lines_in, opens_in}
use Rattle.picture.specs.declared.page.Form.TheVariants as form
use Rattle.picture.specs.declared.reads.PictureOptions.{PictureOptions}
use Rattle.picture.specs.declared.subjects.Subject.TheVariants as subject
use Rattle.draw.specs.{DrawsBands, IsAround, opening_of, plan_of}
use Rattle.draw.proofs.Drawn.{framed}
use Rattle.draw.proofs.Giving.{shown_in}
use Rattle.scenario.specs.{Script}
use Rattle.draw.proofs.RunReported.{lines_of_run, marks_of_run, text_of_run}
use Rattle.draw.specs.{DrawsAll, DrawsFramed, DrawsPage, IsRunPicture, ended_lines, full_view, run_given}

-- a page
pub is_page : (options : PictureOptions) (said : Script) (file head ending : List ℕ) (b c : Option (List ℕ)) (height : ℕ) → (bands : DrawsBands (plan_of form.Page options.window said.setup) b c (run_given (full_view options) said) height) →
    head ≡ page_front subject.Run said.setup file options.reads → ending ≡ page_back (opening_of options.window said) →
    IsRunPicture options form.Page file said ((head ++ bands_reported (plan_of form.Page options.window said.setup) bands.items) ++ ending)
is_page options said file head ending b c height bands front back = record {
  items = bands.items;
  are = bands.are;
  lines = lines_of_run (full_view options) said bands.items bands.are;
  marks = marks_of_run (full_view options) said bands.items bands.are;
  first = bands.items;
  same_items = bands.are;
  same_lines = lines_of_run (full_view options) said bands.items bands.are;
  same_marks = marks_of_run (full_view options) said bands.items bands.are;
  is = λ i. (front i ++ bands_reported (plan_of form.Page options.window said.setup) bands.items) ++ back i;
}

-- one picture, whose height was computed first
pub is_picture : (top : ℕ) (options : PictureOptions) (file : List ℕ) (said : Script) (head ending : List ℕ) (a a' b c : Option (List ℕ)) (height height' : ℕ) → (first : DrawsBands (plan_of (form.Picture top) options.window said.setup) a a' (run_given (full_view options) said) height) → (bands : DrawsBands (plan_of (form.Picture top) options.window said.setup) b c (run_given (full_view options) said) height') →
    head ≡ picture_front subject.Run said.setup height options.reads → ending ≡ picture_back height options.reads →
    IsRunPicture options (form.Picture top) file said ((head ++ bands_reported (plan_of (form.Picture top) options.window said.setup) bands.items) ++ ending)
is_picture top options file said head ending a a' b c height height' first bands front back = record {
  items = bands.items;
  are = bands.are;
  lines = lines_of_run (full_view options) said bands.items bands.are;
  marks = marks_of_run (full_view options) said bands.items bands.are;
  first = first.items;
  same_items = first.are;
  same_lines = lines_of_run (full_view options) said first.items first.are;
  same_marks = marks_of_run (full_view options) said first.items first.are;
  is = λ i. ((front ∙ ap (λ h. picture_front subject.Run said.setup h options.reads) first.heights) i ++ bands_reported (plan_of (form.Picture top) options.window said.setup) bands.items) ++ (back ∙ ap (λ h. picture_back h options.reads) first.heights) i;
}

-- a page was written, with its start
pub draws_page : (options : PictureOptions) (file : List ℕ) (said : Script) (a d : Option (List ℕ)) (head : List ℕ) → head ≡ page_front subject.Run said.setup file options.reads → lines_in head ≡ [] → opens_in head (Some []) ≡ Some page_names →
    DrawsPage options head said a d → DrawsAll options form.Page file said a d
draws_page options file said a d head front none begins p =
    let plan = plan_of form.Page options.window said.setup in
    let whole = framed plan a p.begun p.drawn d head p.last.ending page_names (run_given (full_view options) said) p.height
    (record { no_head = none; begins = begins; no_end = p.last.lines; ends = p.last.ends }) p.first p.bands p.last.writes in
    record {
      markup = (head ++ bands_reported plan p.bands.items) ++ p.last.ending;
      page = is_page options said file head p.last.ending p.begun p.drawn p.height p.bands front p.last.is;
      elements = whole.0;
      read_back = whole.1;
      all_read_back = λ all. ap ended_lines (whole.1 ∙ shown_in options.window (run_given (full_view options) said) all) ∙ text_of_run (full_view options) said;
      writes = whole.2;
    }

-- the parts before and after the bands of one picture have no lines, and the last part ends the elements that the first part begins
pub draws_framed : (options : PictureOptions) (form : Form) (file : List ℕ) (said : Script) (a d : Option (List ℕ)) (head ending : List ℕ) (names : List (List ℕ)) → IsAround names head ending →
    (f : DrawsFramed options form head ending said a d) → IsRunPicture options form file said ((head ++ bands_reported (plan_of form options.window said.setup) f.bands.items) ++ ending) → DrawsAll options form file said a d
draws_framed options form file said a d head ending names around f page =
    let whole = framed (plan_of form options.window said.setup) a f.begun f.drawn d head ending names (run_given (full_view options) said) f.height around f.first f.bands f.last in
    record { markup = (head ++ bands_reported (plan_of form options.window said.setup) f.bands.items) ++ ending; page = page; elements = whole.0; read_back = whole.1; all_read_back = λ all. ap ended_lines (whole.1 ∙ shown_in options.window (run_given (full_view options) said) all) ∙ text_of_run (full_view options) said; writes = whole.2 }
