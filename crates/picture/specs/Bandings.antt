-- The bands of a picture, by its items. Lists of items, of columns and of full bands begin with the newest.
use Rattle.std.specs.Prelude.{ℕ, ◌+◌, ◌-◌, min, Bool, true, false, List, [], ◌∷◌, ◌++◌, codes, fold, length, Option, None, Some}
use Rattle.std.specs.Fmt.{decimal}
use Rattle.markup.specs.{End, drawings, drawn, entering_by, lowering}
use Rattle.markup.specs.declared.names.Key.TheVariants as key
use Rattle.markup.specs.declared.names.Tag.TheVariants as tag
use Rattle.picture_layout.specs.{Layout, OverlappedRead, WordEnds, RunLine, Seen, SeenAccesses, ShownAccess, State, accesses_after, accesses_at, alone, column_of_access, column_of_read, freed_by, has_room_at, joined, joins, layout_of, moved_to, place_of, placing_at_first, put_at, shortened, state_reported, stretched_all}
use Rattle.picture.specs.Drawings.{last_in}
use Rattle.picture.specs.Sheets.{held_in_64, says, view_of}
use Rattle.picture.specs.Verdicts.{height_with, judged_shapes}
use Rattle.picture.specs.declared.page.Form.{Form}
use Rattle.picture.specs.declared.page.Form.TheVariants as form
use Rattle.picture.specs.declared.subjects.Subject.{Subject}
use Rattle.shown_verdict.specs.declared.verdicts.ShownVerdict.{ShownVerdict}

-- the items from which a picture is drawn
pub data Item : Type 0 where
  Reports : RunLine → Item  -- a line of the run
  Reads : OverlappedRead → Item  -- a read that a write overlapped
  Accesses : ShownAccess → Item  -- what an entry does to an access
  Judges : ℕ → ShownVerdict → Item  -- a verdict, after this number of entries; it is the last item

-- What is known of a picture from the start: where its bands are drawn, its subject, and what is at the left edge of its first band: the words of the store, or no byte, the state of all processes, the number of entries before it, and the accesses.
pub record Plan : Type 0 where
  pub form : Form
  pub subject : Subject
  pub opening : List ℕ
  pub state : State
  pub at : ℕ
  pub accesses : SeenAccesses

-- the state of all processes after items, by the state before them
abbrev pub state_after : State → List Item → State
state_after state [] = state
state_after state (Reports line ∷ before) = state_reported (state_after state before) line.line_content
state_after state (Reads read ∷ before) = state_after state before
state_after state (Accesses access ∷ before) = state_after state before
state_after state (Judges at verdict ∷ before) = state_after state before

-- the verdict of items, if the newest is one
abbrev pub verdict_in : List Item → Option ShownVerdict
verdict_in [] = None
verdict_in (Reports line ∷ before) = None
verdict_in (Reads read ∷ before) = None
verdict_in (Accesses access ∷ before) = None
verdict_in (Judges at verdict ∷ before) = Some verdict

-- items, and then a verdict, if there is one, after this number of entries
abbrev pub judged_with : ℕ → Option ShownVerdict → List Item → List Item
judged_with at None items = items
judged_with at (Some verdict) items = Judges at verdict ∷ items

-- the newest column, and those before it
abbrev pub newest : List Seen → Option Seen
newest [] = None
newest (column ∷ before) = Some column

abbrev pub older : List Seen → List Seen
older [] = []
older (column ∷ before) = before

-- how many events were accepted before the newest column, or at the left edge
abbrev pub newest_at : ℕ → List Seen → ℕ
newest_at at [] = at
newest_at at (column ∷ before) = column.at

-- a column of its own
abbrev pub begun_by : ℕ → RunLine → Option ℕ → State → List Seen → List Seen
begun_by at line frees after columns = alone line (line.at - newest_at at columns) frees after ∷ columns

-- a line joins the newest column if it is a mark of that column's event; otherwise it begins a column
abbrev pub line_by : Bool → ℕ → RunLine → Option ℕ → State → Seen → List Seen → List Seen
line_by true at line frees after column before = joined column line frees after ∷ before
line_by false at line frees after column before = begun_by at line frees after (column ∷ before)

abbrev pub with_line : ℕ → RunLine → Option ℕ → State → List Seen → List Seen
with_line at line frees after [] = begun_by at line frees after []
with_line at line frees after (column ∷ before) = line_by (joins column line) at line frees after column before

-- the columns of items
abbrev pub columns_of : Plan → List Item → List Seen
columns_of plan [] = []
columns_of plan (Reports line ∷ before) =
    with_line plan.at line (freed_by (state_after plan.state before) line.line_content)
    (state_reported (state_after plan.state before) line.line_content) (columns_of plan before)
columns_of plan (Reads read ∷ before) =
    column_of_read read (read.end - newest_at plan.at (columns_of plan before))
    (state_after plan.state before) ∷ columns_of plan before
columns_of plan (Accesses access ∷ before) =
    column_of_access access (access.event - newest_at plan.at (columns_of plan before))
    (state_after plan.state before) ∷ columns_of plan before
columns_of plan (Judges at verdict ∷ before) = columns_of plan before

-- the band that is begun, its columns in order, and the bands that are full
pub record Bands : Type 0 where
  pub begun : List Seen
  pub full : List (List Seen)

-- the words at the beginning of the history, and their number of characters
abbrev pub opens_with : List ℕ → List ℕ
opens_with [] = []
opens_with (b ∷ opening) = shortened (codes "opens with " ++ b ∷ opening)

abbrev pub opening_length : List ℕ → ℕ
opening_length [] = 0
opening_length (b ∷ opening) = min (length (b ∷ opening)) 33 + 11

-- The ends of the words before the first column of a band. In the first band, the lane of the history begins with the words of the opening store.
abbrev pub placing_before : List ℕ → List (List Seen) → WordEnds
placing_before opening [] = placing_at_first (opening_length opening)
placing_before opening (band ∷ full) = placing_at_first 0

-- the ends of the words after columns
abbrev pub with_placed : WordEnds → Seen → WordEnds
with_placed placing column = put_at placing column column.x

abbrev pub placing_behind : WordEnds → List Seen → WordEnds
placing_behind = fold with_placed

-- the ends of the words after the columns of the band that is begun
abbrev pub placing_in : List ℕ → Bands → WordEnds
placing_in opening bands = placing_behind (placing_before opening bands.full) bands.begun

-- the band that is begun is full, and another begins
abbrev pub filled : Bands → Bands
filled bands = record { begun = []; full = bands.begun ∷ bands.full }

-- where a column has no room, another band begins
abbrev pub room_by : Bool → Bands → Bands
room_by true bands = bands
room_by false bands = filled bands

abbrev pub with_room : List ℕ → Seen → Bands → Bands
with_room opening column bands = room_by (has_room_at (placing_in opening bands) (place_of (placing_in opening bands) column)) bands

-- a column is put after the others of the band, at its position
abbrev pub with_put : List ℕ → Seen → Bands → Bands
with_put opening column bands = record { begun = bands.begun ++ moved_to column (place_of (placing_in opening bands) column).x ∷ []; full = bands.full }

-- the bands of columns
abbrev pub bands_of : List ℕ → List Seen → Bands
bands_of opening [] = record { begun = []; full = [] }
bands_of opening (column ∷ before) = with_put opening column (with_room opening column (bands_of opening before))

-- the state of all processes after columns, and the number of events accepted before the last column; if there are no columns, these are as before
abbrev pub behind_columns : List Seen → State × ℕ → State × ℕ
behind_columns columns before = elim (last_in columns) [ None ↦ before | Some column ↦ (column.after, column.at) ]

-- the state and the number of events accepted before a band; before the first band, the state at the left edge and the number of the entry before it
abbrev pub before_band : Plan → List (List Seen) → State × ℕ
before_band plan [] = (plan.state, plan.at - 1)
before_band plan (band ∷ full) = behind_columns band (before_band plan full)

-- the words of the opening store, which only the first band has
abbrev pub opens_before : List ℕ → List (List Seen) → List ℕ
opens_before opening [] = opens_with opening
opens_before opening (band ∷ full) = []

-- the accesses that are open at the left edge of a band, and its waves, by the accesses before it
abbrev pub accesses_in : SeenAccesses → List Seen → SeenAccesses
accesses_in before band = accesses_at before (stretched_all band)

-- the accesses after full bands
abbrev pub accesses_behind : SeenAccesses → List (List Seen) → SeenAccesses
accesses_behind first [] = first
accesses_behind first (band ∷ full) =
    accesses_after (accesses_in (accesses_behind first full) band) (stretched_all band)

-- where the lanes of a band lie, once its columns are drawn apart
abbrev pub layout_in : ℕ → SeenAccesses → List Seen → Bool → Layout
layout_in processes before band = layout_of processes (accesses_in before band) (stretched_all band)

-- where the lanes of a band lie that comes after full ones
abbrev pub layout_of_band : Plan → List Seen → List (List Seen) → Bool → Layout
layout_of_band plan band full is_last =
    layout_in plan.state.processes (accesses_behind plan.accesses full) band is_last

-- the number of full bands
abbrev pub number_of : List (List Seen) → ℕ
number_of [] = 0
number_of (band ∷ full) = held_in_64 (number_of full + 1)

-- the heights of full bands, with 16 more for each
abbrev pub heights : Plan → List (List Seen) → ℕ
heights plan [] = 0
heights plan (band ∷ full) = held_in_64
    (heights plan full + ((layout_of_band plan band full false).height + 16))

-- the tag of a band's own picture
abbrev pub band_tag : ℕ → ℕ → List ℕ
band_tag number height = entering_by tag.Svg (says ((key.Class, codes "band") ∷ (key.ViewBox, view_of height) ∷ (key.Role, codes "group") ∷ (key.Label, codes "Part " ++ (decimal number ++ codes " of the run")) ∷ []))

-- a band in its frame: a picture of its own, the part of this number, or a group of one picture, below those before it
abbrev pub framed : Form → ℕ → ℕ → ℕ → List ℕ → List ℕ
framed form.Page number above height shapes = band_tag number height ++ codes "\n" ++ shapes ++ codes "</svg>\n"
framed (form.Picture top) number above height shapes = lowering (held_in_64 (top + above)) ++ shapes ++ drawn End

-- the bytes of a band after full bands, with a verdict below it, if there is one
abbrev pub band_bytes : Plan → Bool → Option ShownVerdict → List Seen → List (List Seen) → List ℕ
band_bytes plan is_last verdict band full =
    framed plan.form (number_of (band ∷ full)) (heights plan full)
    (height_with verdict (layout_of_band plan band full is_last).height)
    (drawings (judged_shapes verdict (record {
      columns = stretched_all band;
      before = (before_band plan full).0;
      before_at = (before_band plan full).1;
      layout = layout_of_band plan band full is_last;
      is_last = is_last;
      opens = opens_before plan.opening full;
      subject = plan.subject;
    }) (accesses_in (accesses_behind plan.accesses full) band)))

-- the bytes of full bands
abbrev pub full_bytes : Plan → List (List Seen) → List ℕ
full_bytes plan [] = []
full_bytes plan (band ∷ full) = full_bytes plan full ++ band_bytes plan false None band full

-- the bytes of bands whose last column is the last of all, with a verdict below the last band, if there is one
abbrev pub whole_bytes : Plan → Option ShownVerdict → Bands → List ℕ
whole_bytes plan verdict bands = full_bytes plan bands.full ++ band_bytes plan true verdict bands.begun bands.full

-- the bytes written of items so far: the bands that are full once all columns before the newest are placed
abbrev pub full_drawn : Plan → List Item → List ℕ
full_drawn plan items = full_bytes plan (bands_of plan.opening (older (columns_of plan items))).full

-- the bytes of all bands of items, once there are no more items, and the heights of these bands
abbrev pub bands_drawn : Plan → List Item → List ℕ
bands_drawn plan items =
    whole_bytes plan (verdict_in items) (bands_of plan.opening (columns_of plan items))

-- the heights of bands and of the verdict, with 16 more for each band
abbrev pub heights_of : Plan → Option ShownVerdict → Bands → ℕ
heights_of plan verdict bands = held_in_64 (heights plan bands.full
    + (height_with verdict (layout_of_band plan bands.begun bands.full false).height + 16))

abbrev pub heights_drawn : Plan → List Item → ℕ
heights_drawn plan items =
    heights_of plan (verdict_in items) (bands_of plan.opening (columns_of plan items))
