-- A page of a window, from item to item.
use Rattle.std.proofs.Common.{◌≡◌, ◌<◌, ◌-◌, ℕ, Bool, true, false, ◌&&◌, ◌||◌, not, nat_le, nat_lt, Result, Ok, Err, IfOk, OnOk, List, [], ◌∷◌, ◌++◌, Option, None, Some, refl, ap, sym, subst, ◌∙◌, append-nil, true≢false}
use Rattle.std.proofs.Math.Dec.{leb-zero}
use Rattle.std.proofs.lemmas.Bool.{lt-leb, ltb-true}
use Rattle.picture_layout.specs.{OverlappedRead, RunLine, LineContent}
use Rattle.picture_layout.specs.declared.line_contents.LineContent.TheVariants.{Ended, LockEnded, LockMarked, Marked, Refused, Shown, Tired}
use Rattle.markup.specs.{lines_in}
use Rattle.picture.specs.Adding.{GivesLines}
use Rattle.picture.specs.{Accesses, GivesLast, GivesRest, GoesOn, Item, Judges, Passes, Plan, Reads, SeenPage, SeenWindowed, ShownVerdict, TakesIn, TakesItem, Reports, Window, WindowPlan, all_entries, band_text, bands_drawn, bands_reported, begun_in, full_drawn, full_reported, heights_drawn, heights_reported, is_up_to, item_if, judged_with, lines_if, lines_of_band, page_of, passed, passed_if, plan_at, precedes, said_before, shows_end, shows_entry, shows_item, shows_said, titles_if, verdict_if, windowed, within}

-- an entry before the window is not in it
pub early : (w : Window) (at : ℕ) (b : Bool) → nat_lt at w.from ≡ true → nat_le w.from at && b ≡ false
early w at b before = ap (λ (c : Bool). c && b) (lt-leb w.from at (ltb-true at w.from before))

-- nor is what a line says before the window
pub said_hides : (w : Window) (at : ℕ) (line_content : LineContent) → said_before w at line_content ≡ true → shows_said w at line_content ≡ false
said_hides w at (Marked p mark change) is = early w at (is_up_to at w.to) is
said_hides w at (Refused p refusal) is = early w at (shows_end w at) is
said_hides w at (Tired p) is = early w at (shows_end w at) is
said_hides w at (Shown words) is = early w at (shows_end w at) is
said_hides w at (Ended events taken refused) is = absurd (true≢false (sym is))
said_hides w at (LockMarked p mark) is = early w at (is_up_to at w.to) is
said_hides w at (LockEnded entries) is = absurd (true≢false (sym is))

-- no item before the window is shown
pub hides : (w : Window) (item : Item) → precedes w item ≡ true → shows_item w item ≡ false
hides w (Reports line) is = said_hides w line.at line.line_content is
hides w (Reads read) is = early w read.end (is_up_to read.end w.to) is
hides w (Accesses access) is = early w access.event (is_up_to access.event w.to) is
hides w (Judges at verdict) is = absurd (true≢false (sym is))

-- before the window begins nothing is shown
none_shown_by : (w : Window) (item : Item) (before : List Item) (begun is : Bool) → (begun ≡ false → within w before ≡ []) → precedes w item ≡ is → begun || not is ≡ false → within w (item ∷ before) ≡ []
none_shown_by w item before true is none same not_yet = absurd (true≢false not_yet)
none_shown_by w item before false false none same not_yet = absurd (true≢false not_yet)
none_shown_by w item before false true none same not_yet = ap (λ (b : Bool). item_if b item (within w before)) (hides w item same) ∙ none refl

pub none_shown : (w : Window) (items : List Item) → begun_in w items ≡ false → within w items ≡ []
none_shown w [] not_yet = refl
none_shown w (item ∷ before) not_yet = none_shown_by w item before (begun_in w before) (precedes w item) (none_shown w before) refl not_yet

-- the page of a window, by its parts
abbrev pub window_page : Window → Bool → Plan → List Item → SeenWindowed
window_page w begun plan items = record { window = w; begun = begun; page = page_of plan items }

abbrev pub window_with : SeenWindowed → Bool → SeenPage → SeenWindowed
window_with old begun page = record { window = old.window; begun = begun; page = page }

-- an item comes before the window, which has not begun
pub passes_item : (item : Item) (old new : SeenWindowed) → old.begun ≡ false → precedes old.window item ≡ true → new.window ≡ old.window → new.begun ≡ old.begun → Passes item old.page new.page → TakesIn item old new
passes_item item old new not_yet is same begun passes plan items holds =
    let w : Window = plan.window in
    let before : precedes w item ≡ true = ap (λ (p : SeenWindowed). precedes p.window item) (sym holds) ∙ is in
    let yet : begun_in w items ≡ false = ap (λ (p : SeenWindowed). p.begun) (sym holds) ∙ not_yet in
    let none : within w items ≡ [] = none_shown w items yet in
    let hidden : within w (item ∷ items) ≡ [] = ap (λ (b : Bool). item_if b item (within w items)) (hides w item before) ∙ none in
    let by : plan_at plan (item ∷ items) ≡ passed (plan_at plan items) item = ap (λ (b : Bool). passed_if b item (plan_at plan items)) (λ i. before i && not (yet i)) in
    let page : new.page ≡ page_of (passed (plan_at plan items) item) [] = passes (plan_at plan items) (ap (λ (p : SeenWindowed). p.page) holds ∙ ap (page_of (plan_at plan items)) none) in
    let still : new.begun ≡ begun_in w (item ∷ items) = begun ∙ not_yet ∙ sym (λ i. yet i || not (before i)) in (
      (λ i. record {
        window = (same ∙ ap (λ (p : SeenWindowed). p.window) holds) i;
        begun = still i;
        page = (page ∙ (λ j. page_of (sym by j) (sym hidden j))) i;
      }),
      (λ i. full_drawn (by i) (hidden i)) ∙ sym (ap (full_drawn (plan_at plan items)) none),
    )

-- the window has begun with the item or before it
begun_with : (begun before : Bool) → begun || not before ≡ true → before && not begun ≡ false
begun_with true true is = refl
begun_with true false is = refl
begun_with false true is = absurd (true≢false (sym is))
begun_with false false is = refl

-- so the plan stays
module _ (item : Item) (old : SeenWindowed) (plan : WindowPlan) (items : List Item) (begun : old.begun || not (precedes old.window item) ≡ true) (holds : old ≡ windowed plan items) where
  begins : begun_in plan.window (item ∷ items) ≡ true
  begins = ap (λ (p : SeenWindowed). p.begun || not (precedes p.window item)) (sym holds) ∙ begun

  plan_stays : plan_at plan (item ∷ items) ≡ plan_at plan items
  plan_stays = ap (λ (b : Bool). passed_if b item (plan_at plan items)) (begun_with (begun_in plan.window items) (precedes plan.window item) begins)

  is_shown : (b : Bool) → shows_item old.window item ≡ b → within plan.window (item ∷ items) ≡ item_if b item (within plan.window items)
  is_shown b is = ap (λ (b : Bool). item_if b item (within plan.window items)) (ap (λ (p : SeenWindowed). shows_item p.window item) (sym holds) ∙ is)

-- an item that is not shown begins the window, if the window has not begun
pub leaves_out : (item : Item) (old new : SeenWindowed) → old.begun || not (precedes old.window item) ≡ true → shows_item old.window item ≡ false → new ≡ window_with old true old.page → TakesIn item old new
leaves_out item old new begun out is plan items holds =
    let shown : within plan.window (item ∷ items) ≡ within plan.window items = is_shown item old plan items begun holds false out in (
      is ∙ (λ i. window_with (holds i) (sym (begins item old plan items begun holds) i) (holds i).page)
          ∙ (λ i. window_page plan.window (begun_in plan.window (item ∷ items)) (sym (plan_stays item old plan items begun holds) i) (sym shown i)),
      (λ i. full_drawn (plan_stays item old plan items begun holds i) (shown i)),
    )

-- one that is shown is the next item of the page
pub shows_one : (item : Item) (old new : SeenWindowed) (full : Option (List ℕ)) → old.begun || not (precedes old.window item) ≡ true → shows_item old.window item ≡ true → new.window ≡ old.window → new.begun ≡ true → TakesItem item old.page full new.page → GoesOn item old full new
shows_one item old new full begun shown same now takes plan items holds =
    let is : within plan.window (item ∷ items) ≡ item ∷ within plan.window items = is_shown item old plan items begun holds true shown in
    let took = takes (plan_at plan items) (within plan.window items) (ap (λ (p : SeenWindowed). p.page) holds) in (
      (λ i. record {
        window = (same ∙ ap (λ (p : SeenWindowed). p.window) holds) i;
        begun = (now ∙ sym (begins item old plan items begun holds)) i;
        page = (took.0 ∙ (λ j. page_of (sym (plan_stays item old plan items begun holds) j) (sym is j))) i;
      }),
      (λ i. full_drawn (plan_stays item old plan items begun holds i) (is i)) ∙ took.1,
    )

-- no band is full by an item that is taken in alone
pub no_band : (item : Item) (old new : SeenWindowed) → TakesIn item old new → GoesOn item old None new
no_band item old new takes plan items holds =
    let took = takes plan items holds in
    (took.0, took.1 ∙ sym (append-nil (full_reported plan items)))

-- the end: with the verdict, if the end is shown
plan_judged : (plan : WindowPlan) (at : ℕ) (verdict : Option ShownVerdict) (items : List Item) → plan_at plan (judged_with at verdict items) ≡ plan_at plan items
plan_judged plan at None items = refl
plan_judged plan at (Some verdict) items = refl

judged_by : (b : Bool) (at : ℕ) (verdict : ShownVerdict) (items : List Item) → item_if b (Judges at verdict) items ≡ judged_with at (verdict_if b (Some verdict)) items
judged_by true at verdict items = refl
judged_by false at verdict items = refl

none_judged : (b : Bool) (at : ℕ) (items : List Item) → items ≡ judged_with at (verdict_if b None) items
none_judged true at items = refl
none_judged false at items = refl

within_judged : (w : Window) (at : ℕ) (verdict : Option ShownVerdict) (items : List Item) → within w (judged_with at verdict items) ≡ judged_with at (verdict_if (shows_end w at) verdict) (within w items)
within_judged w at None items = none_judged (shows_end w at) at (within w items)
within_judged w at (Some verdict) items = judged_by (shows_end w at) at verdict (within w items)

pub gives_rest : (at : ℕ) (verdict shown : Option ShownVerdict) (old new : SeenWindowed) (full : Option (List ℕ)) (last : List ℕ) → shown ≡ verdict_if (shows_end old.window at) verdict → GivesLast shown old.page full last new.page → GivesRest at verdict old full last new
gives_rest at verdict shown old new full last is gives plan items holds =
    let same : shown ≡ verdict_if (shows_end plan.window at) verdict = is ∙ ap (λ (p : SeenWindowed). verdict_if (shows_end p.window at) verdict) holds in
    let gave = gives (plan_at plan items) (within plan.window items) at (ap (λ (p : SeenWindowed). p.page) holds) in
    let are : within plan.window (judged_with at verdict items) ≡ judged_with at shown (within plan.window items) = within_judged plan.window at verdict items ∙ ap (λ (v : Option ShownVerdict). judged_with at v (within plan.window items)) (sym same) in (
      (λ i. bands_drawn (plan_judged plan at verdict items i) (are i)) ∙ gave.0,
      gave.1 ∙ sym (λ i. heights_drawn (plan_judged plan at verdict items i) (are i)),
    )

-- the titles of a verdict that is shown
pub titles_shown : (b : Bool) (verdict : Option ShownVerdict) → titles_if (verdict_if b verdict) ≡ lines_if b (titles_if verdict)
titles_shown true verdict = refl
titles_shown false verdict = refl

-- these lines, or none, behind others
pub with_shown : (b shown : Bool) (before lines : List (List ℕ)) → b ≡ shown → shown ≡ true → before ++ lines ≡ before ++ lines_if b lines
with_shown b shown before lines is shows = ap (λ (b : Bool). before ++ lines_if b lines) (sym (is ∙ shows))

pub with_none : (b : Bool) (before lines : List (List ℕ)) → b ≡ false → before ≡ before ++ lines_if b lines
with_none b before lines is = sym (ap (λ (b : Bool). before ++ lines_if b lines) is ∙ append-nil before)

-- the window of all entries shows each entry and each line
pub all_entry : (n : ℕ) → shows_entry all_entries n ≡ true
all_entry n = ap (λ (b : Bool). b && true) (leb-zero n)

pub all_said : (at : ℕ) (line_content : LineContent) → shows_said all_entries at line_content ≡ true
all_said at (Marked p mark change) = all_entry at
all_said at (Refused p refusal) = all_entry at
all_said at (Tired p) = all_entry at
all_said at (Shown words) = all_entry at
all_said at (Ended events taken refused) = refl
all_said at (LockMarked p mark) = all_entry at
all_said at (LockEnded entries) = refl

-- an item that does not come before the window begins it
pub not_before : (begun before : Bool) → before ≡ false → begun || not before ≡ true
not_before true before is = refl
not_before false before is = ap not is

-- and one that comes before it once it has begun does not
pub begun_already : (begun before : Bool) → begun ≡ true → begun || not before ≡ true
begun_already begun before is = ap (λ (b : Bool). b || not before) is

-- so an item that comes before it then changes nothing, and neither does a read
pub stays_begun : (item : Item) (old : SeenWindowed) → old.begun ≡ true → precedes old.window item ≡ true → TakesIn item old old
stays_begun item old begun before = leaves_out item old old (begun_already old.begun (precedes old.window item) begun) (hides old.window item before) (λ i. window_with old (begun i) old.page)

read_by : (b : Bool) (read : OverlappedRead) (old : SeenWindowed) → old.begun ≡ b → nat_lt read.end old.window.from ≡ true → TakesIn (Reads read) old old
read_by true read old is before = stays_begun (Reads read) old is before
read_by false read old is before = passes_item (Reads read) old old is before refl refl (λ plan holds. holds)

pub passes_read : (read : OverlappedRead) (old : SeenWindowed) → nat_lt read.end old.window.from ≡ true → TakesIn (Reads read) old old
passes_read read old before = read_by old.begun read old refl before

-- the same where a call goes well
module _ {E : Type 0} where
  pub shows_ok : (r : Result (Option (List ℕ)) E) (item : Item) (old new : SeenWindowed) → old.begun || not (precedes old.window item) ≡ true → shows_item old.window item ≡ true → new.window ≡ old.window → new.begun ≡ true →
      IfOk r (λ full. TakesItem item old.page full new.page) → IfOk r (λ full. GoesOn item old full new)
  shows_ok (Ok full) item old new begun shown same now takes = shows_one item old new full begun shown same now takes
  shows_ok (Err e) item old new begun shown same now takes = tt

  pub rest_ok : (r : Result (Option (List ℕ) × List ℕ) E) (at : ℕ) (verdict shown : Option ShownVerdict) (old new : SeenWindowed) → shown ≡ verdict_if (shows_end old.window at) verdict →
      IfOk r (λ bands. GivesLast shown old.page bands.0 bands.1 new.page) → IfOk r (λ bands. GivesRest at verdict old bands.0 bands.1 new)
  rest_ok (Ok bands) at verdict shown old new is gives = gives_rest at verdict shown old new bands.0 bands.1 is gives
  rest_ok (Err e) at verdict shown old new is gives = tt

  pub lines_shown : (r : Result (Option (List ℕ)) E) (b shown : Bool) (kept before lines : List (List ℕ)) → b ≡ shown → shown ≡ true → GivesLines r kept (before ++ lines) → GivesLines r kept (before ++ lines_if b lines)
  lines_shown (Ok full) b shown kept before lines is shows gives = gives ∙ with_shown b shown before lines is shows
  lines_shown (Err e) b shown kept before lines is shows gives = tt

  pub lines_ended : (r : Result (Option (List ℕ) × List ℕ) E) (b : Bool) (verdict shown : Option ShownVerdict) (before : List (List ℕ)) → shown ≡ verdict_if b verdict →
      IfOk r (λ bands. lines_of_band bands.0 ++ lines_in bands.1 ≡ before ++ titles_if shown) → IfOk r (λ bands. lines_of_band bands.0 ++ lines_in bands.1 ≡ before ++ lines_if b (titles_if verdict))
  lines_ended (Ok bands) b verdict shown before is are = are ∙ ap (λ l. before ++ l) (ap titles_if is ∙ titles_shown b verdict)
  lines_ended (Err e) b verdict shown before is are = tt

pub passes_ok : {A E : Type 0} (r : Result A E) (item : Item) (old new : SeenWindowed) → old.begun ≡ false → precedes old.window item ≡ true → new.window ≡ old.window → new.begun ≡ old.begun → OnOk r (Passes item old.page new.page) → OnOk r (TakesIn item old new)
passes_ok (Ok done) item old new not_yet is same begun passes = passes_item item old new not_yet is same begun passes
passes_ok (Err e) item old new not_yet is same begun passes = tt
