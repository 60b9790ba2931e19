-- The lines that a page holds back, which it has taken in and not drawn yet, and what it stores of all lines.
use Rattle.std.specs.Prelude.{◌≡◌, ℕ, ◌-◌, Bool, List, [], ◌∷◌, ◌++◌, codes, flat_map, map, Option, None, Some, option_map}
use Rattle.std.specs.Option.{option_to_list}
use Rattle.model.specs.{Stage}
use Rattle.markup.specs.{lines_in}
use Rattle.picture.specs.Bandings.{Accesses, Bands, Item, Judges, Plan, Reads, Reports, accesses_behind, band_bytes, bands_drawn, bands_of, before_band, columns_of, filled, full_bytes, full_drawn, heights, heights_drawn, heights_of, judged_with, newest, newest_at, number_of, older, opens_before, placing_in, state_after, verdict_in, with_put, with_room}
use Rattle.picture_layout.specs.{Column, WordEnds, RunLine, LineContent, Seen, SeenAccesses, ShownAccess, State, TakenChange, accesses_after, accesses_at, alone, change_reported, column_of_access, seen, seen_accesses, state_reported, reported_in}
use Rattle.picture.specs.declared.page.Form.{Form}
use Rattle.picture.specs.declared.page.Page.{Page}
use Rattle.picture.specs.declared.subjects.Subject.{Subject}
use Rattle.shown_verdict.specs.declared.verdicts.ShownVerdict.{ShownVerdict}

-- the lines of these columns, and of one that is not placed yet
abbrev pub lines_of : List Column → Option Column → List (List ℕ)
lines_of columns pending = flat_map reported_in columns ++ flat_map reported_in (option_to_list pending)

-- the lines of the band that is begun, and of the column that is not placed yet
abbrev pub held_back : Page → List (List ℕ)
held_back page = lines_of page.columns.items page.pending

-- the lines of a band that is full, if one is
abbrev pub lines_of_band : Option (List ℕ) → List (List ℕ)
lines_of_band None = []
lines_of_band (Some band) = lines_in band

-- the stages after all lines so far, including the lines that are held back
abbrev pub stages_kept : Page → List Stage
stages_kept page = page.state.stages

-- the elements that are open after the part before the bands, in a page and in one picture
abbrev pub page_names : List (List ℕ)
page_names = codes "body" ∷ codes "html" ∷ []

abbrev pub picture_names : List (List ℕ)
picture_names = codes "svg" ∷ []

-- a page, with lists for what its fields hold; one that takes in items has no verdict yet
pub record SeenPage : Type 0 where
  pub form : Form
  pub subject : Subject
  pub opens : List ℕ
  pub state : State
  pub before : State
  pub before_at : ℕ
  pub accesses : SeenAccesses
  pub placing : WordEnds
  pub columns : List Seen
  pub pending : Option Seen
  pub last_at : ℕ
  pub bands : ℕ
  pub height : ℕ
  pub verdict : Option ShownVerdict

abbrev pub seen_page : Page → SeenPage
seen_page page = record {
  form = page.form;
  subject = page.subject;
  opens = page.opens.items;
  state = page.state;
  before = page.before;
  before_at = page.before_at;
  accesses = seen_accesses page.accesses;
  placing = page.placing;
  columns = map seen page.columns.items;
  pending = option_map seen page.pending;
  last_at = page.last_at;
  bands = page.bands;
  height = page.height;
  verdict = None;
}

-- a page that holds these bands, and a column that is not placed yet, if there is one
abbrev pub page_holding : Plan → State → Option Seen → ℕ → Bands → SeenPage
page_holding plan state pending last_at bands = record {
  form = plan.form;
  subject = plan.subject;
  opens = opens_before plan.opening bands.full;
  state = state;
  before = (before_band plan bands.full).0;
  before_at = (before_band plan bands.full).1;
  accesses = accesses_behind plan.accesses bands.full;
  placing = placing_in plan.opening bands;
  columns = bands.begun;
  pending = pending;
  last_at = last_at;
  bands = number_of bands.full;
  height = heights plan bands.full;
  verdict = None;
}

-- a page with these columns, of which the newest is not placed yet
abbrev pub page_by : Plan → State → List Seen → SeenPage
page_by plan state columns =
    page_holding plan state (newest columns) (newest_at plan.at columns)
    (bands_of plan.opening (older columns))

-- a page that has taken in these items
abbrev pub page_of : Plan → List Item → SeenPage
page_of plan items =
    record (page_by plan (state_after plan.state items) (columns_of plan items)) { verdict = verdict_in items }

-- the bytes of a band, if there is one
abbrev pub band_text : Option (List ℕ) → List ℕ
band_text None = []
band_text (Some band) = band

-- A page takes in one more item. It returns the band that is full with the items before, if one is.
abbrev pub TakesItem : Item → SeenPage → Option (List ℕ) → SeenPage → Type 0
TakesItem item old full new =
    (plan : Plan) (items : List Item) → old ≡ page_of plan items →
    (new ≡ page_of plan (item ∷ items))
    × (full_drawn plan (item ∷ items) ≡ full_drawn plan items ++ band_text full)

-- Once there are no more items, a page returns the last bands, with a verdict, if there is one.
abbrev pub GivesLast : Option ShownVerdict → SeenPage → Option (List ℕ) → List ℕ → SeenPage → Type 0
GivesLast verdict old full last new =
    (plan : Plan) (items : List Item) (at : ℕ) → old ≡ page_of plan items →
    (bands_drawn plan (judged_with at verdict items) ≡ full_drawn plan items ++ band_text full ++ last)
    × (new.height ≡ heights_drawn plan (judged_with at verdict items))

-- the accesses after an access, by those before it and the state of all processes there
abbrev pub accesses_left : SeenAccesses → ShownAccess → State → SeenAccesses
accesses_left before access state =
    accesses_after (accesses_at before (column_of_access access 0 state ∷ []))
    (column_of_access access 0 state ∷ [])

-- the words of the store after a change, if there is one, and after a line, by the words before it
abbrev pub opening_by : List ℕ → Option TakenChange → List ℕ
opening_by opening None = opening
opening_by opening (Some change) = change.store.items

abbrev pub opening_reported : List ℕ → LineContent → List ℕ
opening_reported opening line_content = opening_by opening (change_reported line_content)

-- the plan of a picture that begins after an item
abbrev pub passed : Plan → Item → Plan
passed plan (Reports line) = record plan {
  state = state_reported plan.state line.line_content;
  opening = opening_reported plan.opening line.line_content;
}
passed plan (Reads read) = plan
passed plan (Accesses access) =
    record plan { accesses = accesses_left plan.accesses access plan.state }
passed plan (Judges at verdict) = plan

-- A page without items becomes one whose picture begins after an item.
abbrev pub Passes : Item → SeenPage → SeenPage → Type 0
Passes item old new = (plan : Plan) → old ≡ page_of plan [] → new ≡ page_of (passed plan item) []

-- The words of the store at the left edge of a page without items are set.
abbrev pub SetsOpening : List ℕ → SeenPage → SeenPage → Type 0
SetsOpening words old new =
    (plan : Plan) → old ≡ page_of plan [] → new ≡ page_of (record plan { opening = words }) []

-- The column that is not placed yet is put in its band, or in the next one.
abbrev pub Places : SeenPage → Option (List ℕ) → SeenPage → Type 0
Places old full new =
    (plan : Plan) (state : State) (last_at : ℕ) (columns : List Seen) → state.processes ≡ plan.state.processes → old ≡ page_holding plan state (newest columns) last_at (bands_of plan.opening (older columns)) →
    (new ≡ page_holding plan state None last_at (bands_of plan.opening columns)) × (full_bytes plan (bands_of plan.opening columns).full ≡ full_bytes plan (bands_of plan.opening (older columns)).full ++ band_text full)

-- That column is placed, and a line begins the next one, which is not placed yet.
pub record BeginsColumn (line : RunLine) (frees : Option ℕ) (old : SeenPage) (full : Option (List ℕ)) (new : SeenPage) : Type 0 where
  pub placed : SeenPage
  pub places : Places old full placed
  pub is : new ≡ record placed { pending = Some (alone line (line.at - placed.last_at) frees old.state); last_at = line.at }

-- Another band begins where a column has no room.
abbrev pub MakesRoom : Seen → SeenPage → Option (List ℕ) → SeenPage → Type 0
MakesRoom column old full new =
    (plan : Plan) (state : State) (pending : Option Seen) (last_at : ℕ) (bands : Bands) → state.processes ≡ plan.state.processes → old ≡ page_holding plan state pending last_at bands →
    (new ≡ page_holding plan state pending last_at (with_room plan.opening column bands)) × (full_bytes plan (with_room plan.opening column bands).full ≡ full_bytes plan bands.full ++ band_text full)

-- A column is put after the others.
abbrev pub Puts : Seen → SeenPage → SeenPage → Type 0
Puts column old new =
    (plan : Plan) (state : State) (pending : Option Seen) (last_at : ℕ) (bands : Bands) → old ≡ page_holding plan state pending last_at bands → new ≡ page_holding plan state pending last_at (with_put plan.opening column bands)

-- A page whose band that was begun is drawn, with a verdict below it, if there is one.
abbrev pub page_filled : Plan → State → Option Seen → ℕ → Option ShownVerdict → Bands → SeenPage
page_filled plan state pending last_at verdict bands =
    record (page_holding plan state pending last_at (filled bands)) { height = heights_of plan verdict bands }

-- The band that is begun is drawn, with a verdict below it, if there is one, and another begins.
abbrev pub DrawsBand : Bool → Option ShownVerdict → SeenPage → List ℕ → SeenPage → Type 0
DrawsBand is_last verdict old band new =
    (plan : Plan) (state : State) (pending : Option Seen) (last_at : ℕ) (bands : Bands) → state.processes ≡ plan.state.processes → old ≡ page_holding plan state pending last_at bands →
    (new ≡ page_filled plan state pending last_at verdict bands) × (band ≡ band_bytes plan is_last verdict bands.begun bands.full)
