-- Each column shows the stages of the record that the lines up to it say.
use Rattle.std.proofs.Common.{◌≡◌, ◌-◌, ℕ, Bool, true, false, ◌&&◌, ◌||◌, not, cond, nat_lt, List, [], ◌∷◌, refl, ap, sym, subst, ◌∙◌, true≢false}
use Rattle.std.proofs.lemmas.Grind.{fold-append}
use Rattle.std.specs.List.{AllByRecursion}
use Rattle.model.specs.{Mark, Stage}
use Rattle.picture.specs.{Accesses, BarsAreStages, Item, Judges, Plan, Reads, ShowsStages, Reports, WindowPlan, begun_in, columns_of, item_if, items_taken, line_by, newest_at, passed, passed_if, plan_at, precedes, line_contents, shows_item, state_after, with_line, within}
use Rattle.picture_layout.specs.{RunLine, LineContent, Seen, State, alone, at_first, column_of_access, column_of_read, freed_by, joined, joins, like, nothing_reported, stage_among, stages_after, stages_marked, stages_reported, state_lock_marked, state_marked, state_reported}
use Rattle.picture_layout.specs.trace.{LockMark}
use Rattle.picture_layout.specs.trace.declared.marks.LockMark.TheVariants as lock
use Rattle.picture_layout.specs.declared.line_contents.LineContent.TheVariants.{Ended, LockEnded, LockMarked, Marked, Refused, Shown, Tired}
use Rattle.picture.proofs.Pagings.{processes_after}
use Rattle.picture.proofs.Windowing.{hides, none_shown}
use Rattle.picture_layout.proofs.Stages.{stages_are}

-- the stages after a line
marked_stages : (b : Bool) (state : State) (p : ℕ) (mark : Mark) → (let s : State = cond b (state_marked state p mark) state in s.stages) ≡ cond b (stages_marked state.stages p mark) state.stages
marked_stages true state p mark = refl
marked_stages false state p mark = refl

lock_marked_stages : (b : Bool) (state : State) (p : ℕ) (mark : LockMark) → (let s : State = cond b (state_lock_marked state p mark) state in s.stages) ≡ cond b (stages_marked state.stages p (like mark)) state.stages
lock_marked_stages false state p mark = refl
lock_marked_stages true state p lock.Wait = refl
lock_marked_stages true state p mark = refl

reported_stages : (state : State) (line_content : LineContent) → (state_reported state line_content).stages ≡ stages_reported state.processes state.stages line_content
reported_stages state (Marked p mark change) = marked_stages (nat_lt p state.processes) state p mark
reported_stages state (Refused p refusal) = refl
reported_stages state (Tired p) = refl
reported_stages state (Shown words) = refl
reported_stages state (Ended events taken refused) = refl
reported_stages state (LockMarked p mark) = lock_marked_stages (nat_lt p state.processes) state p mark
reported_stages state (LockEnded entries) = refl

-- and after all
stages_of : (n : ℕ) (items : List Item) → (state_after (at_first n) items).stages ≡ stages_after n (line_contents items)
stages_of n [] = refl
stages_of n (Reports line ∷ before) =
    reported_stages (state_after (at_first n) before) line.line_content
    ∙ (λ i. stages_reported (processes_after (at_first n) before i) (stages_of n before i) line.line_content)
    ∙ sym (fold-append (stages_reported n) nothing_reported (line_contents before) (line.line_content ∷ []))
stages_of n (Reads read ∷ before) = stages_of n before
stages_of n (Accesses access ∷ before) = stages_of n before
stages_of n (Judges at verdict ∷ before) = stages_of n before

-- a column after the last of these items
shows_now : (n : ℕ) (items : List Item) (column : Seen) → column.after ≡ state_after (at_first n) items → ShowsStages n items column
shows_now n items column after = record {
  later = [];
  before = items;
  are = refl;
  after = after;
  stages = λ past say p is within. ap (λ (s : State). stage_among s.stages p) after ∙ ap (λ (l : List Stage). stage_among l p) (stages_of n items) ∙ stages_are n (line_contents items) past say p is within;
}

-- and one before it
shows_before : (n : ℕ) (item : Item) (items : List Item) (column : Seen) → ShowsStages n items column → ShowsStages n (item ∷ items) column
shows_before n item items column shows = record {
  later = item ∷ shows.later;
  before = shows.before;
  are = ap (λ (l : List Item). item ∷ l) shows.are;
  after = shows.after;
  stages = shows.stages;
}

abbrev AllShow : ℕ → List Item → List Seen → Type 0
AllShow n items columns = AllByRecursion (ShowsStages n items) columns

all_before : (n : ℕ) (item : Item) (items : List Item) (columns : List Seen) → AllShow n items columns → AllShow n (item ∷ items) columns
all_before n item items [] all = tt
all_before n item items (column ∷ columns) all = (shows_before n item items column all.0, all_before n item items columns all.1)

-- a line more, where the state before it is the one after the items that were taken in
module _ (n : ℕ) (at : ℕ) (line : RunLine) (state : State) (taken : List Item) (same : state ≡ state_after (at_first n) taken) where
  line_after : state_reported state line.line_content ≡ state_after (at_first n) (Reports line ∷ taken)
  line_after = ap (λ (s : State). state_reported s line.line_content) same

  line_by_shows : (b : Bool) (column : Seen) (columns : List Seen) → AllShow n taken (column ∷ columns) →
      AllShow n (Reports line ∷ taken) (line_by b at line (freed_by state line.line_content) (state_reported state line.line_content) column columns)
  line_by_shows true column columns all =
      let last : Seen = joined column line (freed_by state line.line_content) (state_reported state line.line_content) in
      (shows_now n (Reports line ∷ taken) last line_after, all_before n (Reports line) taken columns all.1)
  line_by_shows false column columns all =
      let last : Seen = alone line (line.at - column.at) (freed_by state line.line_content) (state_reported state line.line_content) in
      (shows_now n (Reports line ∷ taken) last line_after, all_before n (Reports line) taken (column ∷ columns) all)

  line_shows : (columns : List Seen) → AllShow n taken columns →
      AllShow n (Reports line ∷ taken) (with_line at line (freed_by state line.line_content) (state_reported state line.line_content) columns)
  line_shows [] all =
      let column : Seen = alone line (line.at - at) (freed_by state line.line_content) (state_reported state line.line_content) in
      (shows_now n (Reports line ∷ taken) column line_after, tt)
  line_shows (column ∷ columns) all = line_by_shows (joins column line) column columns all

-- an item more that is shown
item_shows : (n : ℕ) (item : Item) (plan : Plan) (items taken : List Item) → state_after plan.state items ≡ state_after (at_first n) taken → AllShow n taken (columns_of plan items) → AllShow n (item ∷ taken) (columns_of plan (item ∷ items))
item_shows n (Reports line) plan items taken same all = line_shows n plan.at line (state_after plan.state items) taken same (columns_of plan items) all
item_shows n (Reads read) plan items taken same all =
    let last : Seen = column_of_read read (read.end - newest_at plan.at (columns_of plan items)) (state_after plan.state items) in
    (shows_now n (Reads read ∷ taken) last same, all_before n (Reads read) taken (columns_of plan items) all)
item_shows n (Accesses access) plan items taken same all =
    let last : Seen = column_of_access access (access.event - newest_at plan.at (columns_of plan items)) (state_after plan.state items) in
    (shows_now n (Accesses access ∷ taken) last same, all_before n (Accesses access) taken (columns_of plan items) all)
item_shows n (Judges at verdict) plan items taken same all = all_before n (Judges at verdict) taken (columns_of plan items) all

-- the state after one more, by the state after those before it
item_state : (n : ℕ) (item : Item) (state : State) (items taken : List Item) → state_after state items ≡ state_after (at_first n) taken → state_after state (item ∷ items) ≡ state_after (at_first n) (item ∷ taken)
item_state n (Reports line) state items taken same = ap (λ (s : State). state_reported s line.line_content) same
item_state n (Reads read) state items taken same = same
item_state n (Accesses access) state items taken same = same
item_state n (Judges at verdict) state items taken same = same

passed_state : (n : ℕ) (item : Item) (plan : Plan) (taken : List Item) → plan.state ≡ state_after (at_first n) taken → (passed plan item).state ≡ state_after (at_first n) (item ∷ taken)
passed_state n (Reports line) plan taken same = ap (λ (s : State). state_reported s line.line_content) same
passed_state n (Reads read) plan taken same = same
passed_state n (Accesses access) plan taken same = same
passed_state n (Judges at verdict) plan taken same = same

-- the state after the items that are shown, and their columns
abbrev Shows : ℕ → Plan → List Item → List Item → Type 0
Shows n plan items taken = (state_after plan.state items ≡ state_after (at_first n) taken) × AllShow n taken (columns_of plan items)

-- an item that is shown, that comes before the window, or that is left out
taken_next : (n : ℕ) (is begun shown : Bool) (item : Item) (plan : Plan) (items taken : List Item) → (is ≡ true → shown ≡ false) → (begun ≡ false → items ≡ []) → Shows n plan items taken →
    Shows n (passed_if (is && not begun) item plan) (item_if shown item items) (item_if (shown || (is && not begun)) item taken)
taken_next n true begun true item plan items taken hidden none shows = absurd (true≢false (hidden refl))
taken_next n true false false item plan items taken hidden none shows =
    let state : plan.state ≡ state_after (at_first n) taken = ap (state_after plan.state) (sym (none refl)) ∙ shows.0 in
    subst (λ (l : List Item). Shows n (passed plan item) l (item ∷ taken)) (sym (none refl)) (passed_state n item plan taken state, tt)
taken_next n true true false item plan items taken hidden none shows = shows
taken_next n false begun true item plan items taken hidden none shows = (item_state n item plan.state items taken shows.0, item_shows n item plan items taken shows.0 shows.1)
taken_next n false begun false item plan items taken hidden none shows = shows

window_shows : (plan : WindowPlan) (items : List Item) → Shows plan.processes (plan_at plan items) (within plan.window items) (items_taken plan.window items)
window_shows plan [] = (refl, tt)
window_shows plan (item ∷ before) =
    taken_next plan.processes (precedes plan.window item) (begun_in plan.window before) (shows_item plan.window item) item (plan_at plan before) (within plan.window before) (items_taken plan.window before)
    (hides plan.window item) (none_shown plan.window before) (window_shows plan before)

pub bars_are : BarsAreStages
bars_are plan items = (window_shows plan items).1
