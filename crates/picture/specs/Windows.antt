-- A window of entries, and the page of what it shows.
use Rattle.std.specs.Prelude.{◌≡◌, ℕ, ◌-◌, Bool, true, false, ◌==◌, ◌&&◌, ◌||◌, cond, not, nat_le, nat_lt, List, [], ◌∷◌, ◌++◌, Option, None, Some}
use Rattle.picture_layout.specs.{RunLine, LineContent, at_first, no_accesses}
use Rattle.picture_layout.specs.declared.line_contents.LineContent.TheVariants.{Ended, LockEnded, LockMarked, Marked, Refused, Shown, Tired}
use Rattle.picture.specs.Bandings.{Accesses, Item, Judges, Plan, Reads, Reports, bands_drawn, full_drawn, heights_drawn, judged_with}
use Rattle.picture.specs.Pages.{SeenPage, band_text, held_back, page_of, passed, seen_page, stages_kept}
use Rattle.picture.specs.declared.page.Form.{Form}
use Rattle.picture.specs.declared.subjects.Subject.{Subject}
use Rattle.picture.specs.declared.windowed_page.WindowedPage.{WindowedPage}
use Rattle.picture.specs.declared.windows.Window.{Window}
use Rattle.model.specs.{Stage}
use Rattle.shown_verdict.specs.declared.verdicts.ShownVerdict.{ShownVerdict}

-- all entries
abbrev pub all_entries : Window
all_entries = record { from = 0; to = None }

-- whether a number is at most a limit, if there is one
abbrev pub is_up_to : ℕ → Option ℕ → Bool
is_up_to n None = true
is_up_to n (Some to) = nat_le n to

-- whether an entry is in the window
abbrev pub shows_entry : Window → ℕ → Bool
shows_entry w n = nat_le w.from n && is_up_to n w.to

-- whether a picture shows its end after `at` entries: no later entry is after the window
abbrev pub shows_end : Window → ℕ → Bool
shows_end w at = is_up_to (at - 1) w.to

-- whether it shows a line that comes from no entry, after `at` entries
abbrev pub shows_after : Window → ℕ → Bool
shows_after w at = nat_le w.from at && shows_end w at

-- whether it shows what a line says, after `at` entries
abbrev pub shows_said : Window → ℕ → LineContent → Bool
shows_said w at (Marked p mark change) = shows_entry w at
shows_said w at (LockMarked p mark) = shows_entry w at
shows_said w at (Refused p refusal) = shows_after w at
shows_said w at (Tired p) = shows_after w at
shows_said w at (Shown words) = shows_after w at
shows_said w at (Ended events taken refused) = shows_end w at
shows_said w at (LockEnded entries) = shows_end w at

abbrev pub shows_line : Window → RunLine → Bool
shows_line w line = shows_said w line.at line.line_content

-- whether it shows an item
abbrev pub shows_item : Window → Item → Bool
shows_item w (Reports line) = shows_line w line
shows_item w (Reads read) = shows_entry w read.end
shows_item w (Accesses access) = shows_entry w access.event
shows_item w (Judges at verdict) = shows_end w at

-- whether what a line says comes before the window; an end never does
abbrev pub said_before : Window → ℕ → LineContent → Bool
said_before w at (Ended events taken refused) = false
said_before w at (LockEnded entries) = false
said_before w at _ = nat_lt at w.from

-- whether an item comes before the window
abbrev pub precedes : Window → Item → Bool
precedes w (Reports line) = said_before w line.at line.line_content
precedes w (Reads read) = nat_lt read.end w.from
precedes w (Accesses access) = nat_lt access.event w.from
precedes w (Judges at verdict) = false

-- whether the window has begun: some item so far does not come before it
abbrev pub begun_in : Window → List Item → Bool
begun_in w [] = false
begun_in w (item ∷ before) = begun_in w before || not (precedes w item)

-- what is known of the picture of a window from the start: where its bands are drawn, its subject, the number of processes, the opening store, with no byte if it is empty, and the window
pub record WindowPlan : Type 0 where
  pub form : Form
  pub subject : Subject
  pub processes : ℕ
  pub opening : List ℕ
  pub window : Window

-- the plan before the first item
abbrev pub plan_at_first : WindowPlan → Plan
plan_at_first plan = record {
  form = plan.form;
  subject = plan.subject;
  opening = plan.opening;
  state = at_first plan.processes;
  at = plan.window.from;
  accesses = no_accesses;
}

-- the plan after an item that comes before the window; once the window has begun, it stays
abbrev pub passed_if : Bool → Item → Plan → Plan
passed_if true item plan = passed plan item
passed_if false item plan = plan

-- the plan after items
abbrev pub plan_at : WindowPlan → List Item → Plan
plan_at plan [] = plan_at_first plan
plan_at plan (item ∷ before) =
    passed_if (precedes plan.window item && not (begun_in plan.window before)) item
    (plan_at plan before)

-- an item, if it is shown, and the items that are shown
abbrev pub item_if : Bool → Item → List Item → List Item
item_if true item items = item ∷ items
item_if false item items = items

abbrev pub within : Window → List Item → List Item
within w [] = []
within w (item ∷ before) = item_if (shows_item w item) item (within w before)

-- the page of a window, with lists for its fields
pub record SeenWindowed : Type 0 where
  pub window : Window
  pub begun : Bool
  pub page : SeenPage

abbrev pub seen_windowed : WindowedPage → SeenWindowed
seen_windowed page = record { window = page.window; begun = page.begun; page = seen_page page.page }

-- the page of a window that has taken in these items
abbrev pub windowed : WindowPlan → List Item → SeenWindowed
windowed plan items = record {
  window = plan.window;
  begun = begun_in plan.window items;
  page = page_of (plan_at plan items) (within plan.window items);
}

-- the lines that such a page holds back
abbrev pub held : WindowedPage → List (List ℕ)
held page = held_back page.page

-- these lines, if they are shown
abbrev pub lines_if : Bool → List (List ℕ) → List (List ℕ)
lines_if true lines = lines
lines_if false lines = []

-- a verdict, if the end is shown
abbrev pub verdict_if : Bool → Option ShownVerdict → Option ShownVerdict
verdict_if true verdict = verdict
verdict_if false verdict = None

-- what is written of items, up to where the bands are full that come before the newest column
abbrev pub full_reported : WindowPlan → List Item → List ℕ
full_reported plan items = full_drawn (plan_at plan items) (within plan.window items)

-- what is written of all items, once there are no more, and the heights of their bands
abbrev pub bands_reported : WindowPlan → List Item → List ℕ
bands_reported plan items = bands_drawn (plan_at plan items) (within plan.window items)

abbrev pub heights_reported : WindowPlan → List Item → ℕ
heights_reported plan items = heights_drawn (plan_at plan items) (within plan.window items)

-- The page of a window takes in one item more, and gives the band that is full with what came before it, if one is.
abbrev pub GoesOn : Item → SeenWindowed → Option (List ℕ) → SeenWindowed → Type 0
GoesOn item old full new =
    (plan : WindowPlan) (items : List Item) → old ≡ windowed plan items →
    (new ≡ windowed plan (item ∷ items))
    × (full_reported plan (item ∷ items) ≡ full_reported plan items ++ band_text full)

-- It takes in an item that fills no band.
abbrev pub TakesIn : Item → SeenWindowed → SeenWindowed → Type 0
TakesIn item old new =
    (plan : WindowPlan) (items : List Item) → old ≡ windowed plan items →
    (new ≡ windowed plan (item ∷ items)) × (full_reported plan (item ∷ items) ≡ full_reported plan items)

-- Once there are no more items, it gives the last bands, with a verdict after `at` entries, if there is one.
abbrev pub GivesRest : ℕ → Option ShownVerdict → SeenWindowed → Option (List ℕ) → List ℕ → SeenWindowed → Type 0
GivesRest at verdict old full last new =
    (plan : WindowPlan) (items : List Item) → old ≡ windowed plan items →
    (bands_reported plan (judged_with at verdict items) ≡ full_reported plan items ++ band_text full ++ last)
    × (new.page.height ≡ heights_reported plan (judged_with at verdict items))
