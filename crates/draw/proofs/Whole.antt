-- How the engines end: the parts before the bands, the bands and the part after them are a whole picture.
use Rattle.std.proofs.Common.{◌≡◌, ℕ, ◌+◌, List, [], ◌++◌, length, reverse, Option, Some, None, Result, Ok, Err, OnOk, IfErr, IfSome, ap, subst, ◌∙◌, arith}
use Rattle.std.proofs.lemmas.List.{length-reverse}
use Rattle.std.specs.Io.KnownBytes.{Appends, IsAtEnd, Keeps}
use Rattle.scenario.specs.files.Engines.{Streams}
use Rattle.scenario.specs.files.{Fault}
use Rattle.scenario.specs.files.declared.faults.Fault.TheVariants as fault
use Rattle.model.specs.plain_store.{Setup}
use Rattle.model.specs.{Entry, Past}
use Rattle.judge.specs.record_file.{Said}
use Rattle.judge.specs.{IsOfRecord, numbers_of}
use Rattle.draw.specs.{DrawsBands, EndsPage, IsAround, IsWriteFault, Writes, failed_write, plan_of, store_before, store_words}
use Rattle.picture.specs.{Form, bands_reported, page_back, page_names, picture_back, picture_front, picture_names}
use Rattle.picture.specs.declared.page.Form.TheVariants as form
use Rattle.picture.specs.declared.reads.PictureOptions.{PictureOptions}
use Rattle.picture.specs.markup.{lines_in, opens_in}
use Rattle.picture.specs.declared.subjects.Subject.TheVariants as subject
use Rattle.draw.specs.{DrawnEntry, DrawsAsked, DrawsBandsOf, DrawsRecord, DrawsSaid, DrewRecord, IsJudged, AccessView, picture_of, record_gives, record_view}
use Rattle.draw.proofs.Drawn.{IsWhole, framed}
use Rattle.draw.proofs.Giving.{shown_in}
use Rattle.draw.proofs.RecordGiving.{marks_of_record, texts_of_record}

-- a whole picture with the items of a record is a picture of this record
is_said : (view : AccessView) (form : Form) (said : Said) (reported : List ℕ) (a d b c : Option (List ℕ)) (markup : List ℕ) (height : ℕ) (bands : DrawsBands (plan_of form view.window said.setup) b c (record_gives view said reported) height) → IsWhole view.window a d markup (record_gives view said reported) → markup ≡ picture_of view form said.setup (reverse said.entries) bands.items → DrawsSaid view form said reported a d
is_said view form said reported a d b c markup height bands whole is = record {
  markup = markup;
  picture = record { items = bands.items; are = bands.are; marks = marks_of_record view said reported bands.items bands.are; is = is };
  elements = whole.0;
  read_back = whole.1;
  all_read_back = λ all. whole.1 ∙ shown_in view.window (record_gives view said reported) all ∙ texts_of_record view said reported;
  writes = whole.2;
}

-- the view of a record, by the number of its entries
asked_of : (asked : PictureOptions) (form : Form) (said : Said) (reported : List ℕ) (a d : Option (List ℕ)) → DrawsSaid (record_view asked (length (reverse said.entries))) form said reported a d → DrawsAsked asked form said reported a d
asked_of asked form said reported a d drawn = subst (λ (n : ℕ). DrawsSaid (record_view asked n) form said reported a d) (length-reverse said.entries) drawn

-- a page
pub page_drawn : (asked : PictureOptions) (said : Said) (reported : List ℕ) (drawn : DrawnEntry) (a b c : Option (List ℕ)) → DrawsBandsOf asked form.Page drawn a b said reported → EndsPage drawn.opening.items b c → DrawsAsked asked form.Page said reported a c
page_drawn asked said reported drawn a b c bands last =
    let past : Past = reverse said.entries in
    let view : AccessView = record_view asked (length past) in
    let ends = bands.ends.ends in
    let h = ends.heads in
    let items = ends.bands.items in
    let slider : last.ending ≡ page_back (store_words (store_before view.window said.setup past)) = last.is ∙ ap page_back bands.ends.opens in
    let is : (h.head ++ bands_reported (plan_of form.Page view.window said.setup) items) ++ last.ending ≡ picture_of view form.Page said.setup past items =
    λ i. (h.is i ++ bands_reported (plan_of form.Page view.window said.setup) items) ++ slider i in
    asked_of asked form.Page said reported a c
    (is_said view form.Page said reported a c ends.mid b _ drawn.height ends.bands
    (framed (plan_of form.Page view.window said.setup) a ends.mid b c h.head last.ending page_names (record_gives view said reported) drawn.height (record { no_head = h.lines; begins = h.opens; no_end = last.lines; ends = last.ends }) h.writes ends.bands last.writes) is)

-- bytes that were stored
pub held_are : (bytes markup : List ℕ) → Appends (Some []) (Some bytes) markup → bytes ≡ markup
held_are bytes markup is = is

-- one picture
pub picture_drawn : (asked : PictureOptions) (said : Said) (reported : List ℕ) (drawn : DrawnEntry) (bytes : List ℕ) (a b c d : Option (List ℕ)) (head ending : List ℕ) → DrawsBandsOf asked (form.Picture 34) drawn (Some []) (Some bytes) said reported → head ≡ picture_front subject.Record drawn.setup drawn.height drawn.shows → ending ≡ picture_back drawn.height drawn.shows →
    IsAround picture_names head ending → Writes a b head → Appends b c bytes → Writes c d ending → DrawsAsked asked (form.Picture 34) said reported a d
picture_drawn asked said reported drawn bytes a b c d head ending bands front back around first mid last =
    let view : AccessView = record_view asked (length (reverse said.entries)) in
    let ends = bands.ends.ends in
    let shows = bands.ends.shows_it in
    let o = ends.bands in
    let same : bytes ≡ bands_reported (plan_of (form.Picture 34) view.window said.setup) o.items = held_are bytes (bands_reported (plan_of (form.Picture 34) view.window said.setup) o.items) (subst (λ (m : Option (List ℕ)). Appends m (Some bytes) (bands_reported (plan_of (form.Picture 34) view.window said.setup) o.items)) ends.heads o.draws.writes.taken) in
    let again : DrawsBands (plan_of (form.Picture 34) view.window said.setup) b c (record_gives view said reported) drawn.height = record {
      items = o.items;
      are = o.are;
      draws = record { ended = o.draws.ended; read_back = o.draws.read_back; writes = record { rests = o.draws.writes.rests; taken = subst (λ l. Appends b c l) same mid } };
      heights = o.heights;
    } in
    let is : (head ++ bands_reported (plan_of (form.Picture 34) view.window said.setup) o.items) ++ ending ≡ picture_of view (form.Picture 34) said.setup (reverse said.entries) o.items =
    λ i. ((front ∙ (λ j. picture_front subject.Record (bands.setup j) (o.heights j) (shows j))) i ++ bands_reported (plan_of (form.Picture 34) view.window said.setup) o.items) ++ (back ∙ (λ j. picture_back (o.heights j) (shows j))) i in
    asked_of asked (form.Picture 34) said reported a d
    (is_said view (form.Picture 34) said reported a d b c _ drawn.height again (framed (plan_of (form.Picture 34) view.window said.setup) a b c d head ending picture_names (record_gives view said reported) drawn.height around first again last) is)

-- a consequence for the whole input, if the input is known
pub if_some : (o : Option (List ℕ)) (P Q : List ℕ → Type 0) → ((x : List ℕ) → P x → Q x) → IfSome o P → IfSome o Q
if_some None P Q then is = tt
if_some (Some x) P Q then is = then x is

-- a consequence for a record that a text says, and for the entries that are shown of a judged record
pub of_record_then : (P Q : Setup → List Entry → List ℕ → Type 0) (text : List ℕ) → ((s : Setup) (entries : List Entry) (numbers : List ℕ) → P s entries numbers → Q s entries numbers) → IsOfRecord P text → IsOfRecord Q text
of_record_then P Q text then is = record { said = is.said; says = is.says; holds = then is.said.setup is.said.entries (numbers_of text) is.holds }

judged_then : (Keeps : Setup → List Entry → Type 0) (Reports : Setup → List Entry → List ℕ → List ℕ → ℕ → Type 0) (status : ℕ) (P Q : Said → List ℕ → Type 0) → ((said : Said) (reported : List ℕ) → P said reported → Q said reported) → (s : Setup) (entries : List Entry) (numbers : List ℕ) →
    IsJudged Keeps Reports status P s entries numbers → IsJudged Keeps Reports status Q s entries numbers
judged_then Keeps Reports status P Q then s entries numbers is = record { reported = is.reported; reports = is.reports; shown = is.shown; shows = is.shows; is = then (record { setup = s; entries = is.shown }) is.reported is.is }

pub judged_all : (Keeps : Setup → List Entry → Type 0) (Reports : Setup → List Entry → List ℕ → List ℕ → ℕ → Type 0) (status : ℕ) (P Q : Said → List ℕ → Type 0) → ((said : Said) (reported : List ℕ) → P said reported → Q said reported) → (o : Option (List ℕ)) →
    IfSome o (IsOfRecord (IsJudged Keeps Reports status P)) → IfSome o (IsOfRecord (IsJudged Keeps Reports status Q))
judged_all Keeps Reports status P Q then o is =
    if_some o (IsOfRecord (IsJudged Keeps Reports status P)) (IsOfRecord (IsJudged Keeps Reports status Q)) (λ text. of_record_then (IsJudged Keeps Reports status P) (IsJudged Keeps Reports status Q) text (judged_then Keeps Reports status P Q then)) is

-- the engine ends with the last write
pub drew_last : (reads : PictureOptions) (f : Form) (r : Result (Unit {0}) Fault) (old new : Streams) → OnOk r (IfSome old.to_come (λ text. DrawsRecord reads f text old.taken new.taken)) → IsAtEnd new.to_come → IfErr r IsWriteFault → new.write_failures ≡ old.write_failures + failed_write r → DrewRecord reads f r old new
drew_last reads f (Ok done) old new drawn end why failures = (drawn, end)
drew_last reads f (Err fault.Write) old new drawn end why failures = omega (arith, failures)
drew_last reads f (Err fault.Memory) old new drawn end why failures = tt
drew_last reads f (Err fault.Read) old new drawn end why failures = absurd why
drew_last reads f (Err (fault.Line l)) old new drawn end why failures = absurd why
