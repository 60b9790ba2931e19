-- What a band draws, as a list of shapes.
use Rattle.std.specs.Prelude.{ℕ, zero, suc, ◌+◌, ◌-◌, ◌*◌, ◌/◌, ◌^◌, min, Bool, true, false, ◌==◌, ◌&&◌, ◌||◌, cond, is_some, nat_le, nat_lt, slice_get, List, [], ◌∷◌, ◌++◌, codes, flat_map, length, map, string_bytes, Option, None, Some}
use Rattle.std.specs.Fmt.{decimal}
use Rattle.markup.specs.{Block, End, Label, Mark, Note, Point, Said, Shape, line_from, path_from}
use Rattle.markup.specs.declared.names.Key.TheVariants as key
use Rattle.picture.specs.AccessShapes.{accesses_from, begun, guide, ties}
use Rattle.picture.specs.Bars.{bars, lane_name, point, words_from}
use Rattle.picture_layout.specs.{SeenAccesses, Lane, Layout, OverlappedRead, RunLine, Seen, State, TakenChange, Wording, bar_of, bit_text, capped, chain_ends_of, change_reported, event_position, knot_of, lane_in, open_of, place_reported, saw_text, seen, settles_and_takes_in, stage_among, taken_in, reports_refusal, text_of, title_text, word_of}
use Rattle.picture.specs.Signs.{down_by, moved_by, sign}
use Rattle.picture.specs.Subjects.{has_history, time_unit}
use Rattle.picture.specs.WaveShapes.{waves_from}
use Rattle.picture.specs.Words.{queue_text, row_class}
use Rattle.picture.specs.declared.bands.Band.{Band}
use Rattle.picture.specs.declared.subjects.Subject.{Subject}
use Rattle.picture.specs.declared.words.Stretch.{Stretch}

-- a band, with lists for what its fields hold: its columns, the state before them, and the positions of its lanes
pub record SeenBand : Type 0 where
  pub columns : List Seen
  pub before : State
  pub before_at : ℕ
  pub layout : Layout
  pub is_last : Bool
  pub opens : List ℕ
  pub subject : Subject

abbrev pub seen_band : Band → SeenBand
seen_band band = record {
  columns = map seen band.columns.items;
  before = band.before;
  before_at = band.before_at;
  layout = band.layout;
  is_last = band.is_last;
  opens = band.opens.items;
  subject = band.subject;
}

-- the last column of a band
abbrev pub last_in : List Seen → Option Seen
last_in columns = slice_get columns (length columns - 1)

-- the shapes of each process below a number, ascending
abbrev pub for_each : (ℕ → List Shape) → ℕ → List Shape
for_each shapes zero = []
for_each shapes (suc p) = for_each shapes p ++ shapes p

-- a shade from one place to another, over all lanes
abbrev pub shade_of : ℕ → ℕ → ℕ → Shape
shade_of chain from to = Block (codes "shade") (point from 20) (to - from) (chain - 20)

-- the position from which a process has been inside, after a column at position `x`, if one is inside there
abbrev pub inside_since : Option ℕ → Bool → ℕ → Option ℕ
inside_since from false x = None
inside_since (Some from) true x = Some from
inside_since None true x = Some x

-- the shade that ends there, if one does
abbrev pub shade_up_to : ℕ → Option ℕ → Bool → ℕ → List Shape
shade_up_to chain (Some from) false to = shade_of chain from to ∷ []
shade_up_to chain (Some from) true to = []
shade_up_to chain None inside to = []

-- the shades from a column on, where `from` is the position from which a process has been inside, if one is
abbrev pub shades : ℕ → ℕ → Option ℕ → List Seen → List Shape
shades chain end from [] = shade_up_to chain from false end
shades chain end from (column ∷ columns) =
    shade_up_to chain from (is_some column.after.inside) column.x ++ shades chain end (inside_since from (is_some column.after.inside) column.x) columns

-- the axis up to a column: dotted where there are more events than pixels
abbrev pub axis_line : ℕ → Seen → Shape
axis_line from column = line_from (cond (nat_lt (column.x - from) column.gap) (codes "far") (codes "axis")) (point from 14) (point column.x 14)

-- the tick of a column that has an event
abbrev pub tick : Seen → List Shape
tick column = cond (is_some column.event) (line_from (codes "axis") (point column.x 11) (point column.x 17) ∷ []) []

-- whether the number of events between two columns is drawn: there are more than one, and it has room
abbrev pub reports_gap : ℕ → Seen → Bool
reports_gap from column = nat_lt 1 column.gap && nat_le (capped (6 * length (decimal column.gap) + 8)) (column.x - from)

abbrev pub gap_words : ℕ → Seen → List Shape
gap_words from column = cond (reports_gap from column) (Label (codes "gap") (point ((from + column.x) / 2) 11) (decimal column.gap) ∷ []) []

abbrev pub axis_up_to : ℕ → Seen → List Shape
axis_up_to from column = axis_line from column ∷ (tick column ++ gap_words from column)

-- the axis from a position on, and the unit that it counts
abbrev pub axis : Subject → ℕ → ℕ → List Seen → List Shape
axis subject end from [] = line_from (codes "axis") (point from 14) (point end 14) ∷ Label (codes "name") (point 8 17) (time_unit subject) ∷ []
axis subject end from (column ∷ columns) = axis_up_to from column ++ axis subject end column.x columns

-- a lane: its name, and its bars from the left edge on
abbrev pub lane_shapes : SeenBand → ℕ → List Shape
lane_shapes band p =
    lane_name (lane_in band.layout p) p
    ++ bars (lane_in band.layout p) p band.layout.end (stage_among band.before.stages p) 52 band.columns

-- the chain of the history, from its first position to its last
abbrev pub chain_line : ℕ → Option (ℕ × ℕ) → List Shape
chain_line knot None = []
chain_line knot (Some ends) = line_from (codes "chain") (point ends.0 knot) (point ends.1 knot) ∷ []

-- the words of the opening store
abbrev pub opening_words : ℕ → List ℕ → List Shape
opening_words knot [] = []
opening_words knot (b ∷ words) = Label (codes "store") (point 62 (knot + 4)) (b ∷ words) ∷ []

-- the name of the lowest lane, if it is a history
abbrev pub history_name : Bool → ℕ → List Shape
history_name true knot = Label (codes "name") (point 8 (knot + 3)) (codes "history") ∷ []
history_name false knot = []

-- the number of positions of the history before the left edge, from which its chain continues; 0 if the words of the store begin the lane
abbrev pub places_behind : List ℕ → ℕ → ℕ
places_behind [] places = places
places_behind (b ∷ opens) places = 0

-- the lane of the history without its lines
abbrev pub chain_shapes : SeenBand → List Shape
chain_shapes band =
    line_from (codes "ground") (point 8 (band.layout.chain - 3)) (point 1188 (band.layout.chain - 3))
    ∷ (history_name (has_history band.subject) (knot_of band.layout)
    ++ opening_words (knot_of band.layout) band.opens
    ++ chain_line (knot_of band.layout)
    (chain_ends_of (places_behind band.opens band.before.places) band.is_last band.layout.end band.columns))

-- an arrow from a point to a lane, by the styles of its line and of its tip: its line, up to five pixels before its tip, and its tip
abbrev pub arrow_by : List ℕ → List ℕ → Point → ℕ → ℕ → List ℕ → List Shape
arrow_by line tip from end at head = line_from line from (point from.x end) ∷ path_from tip (point from.x at) head ∷ []

-- the distance of the tip of an arrow from the middle line of its lane
abbrev pub distance_of_tip : Lane → ℕ
distance_of_tip lane = cond lane.is_full 9 5

-- an arrow from above or from below
abbrev pub arrow : List ℕ → List ℕ → Point → Lane → List Shape
arrow line tip from lane = cond (nat_lt from.y (bar_of lane))
    (arrow_by line tip from (bar_of lane - distance_of_tip lane - 5) (bar_of lane - distance_of_tip lane) (codes "l-4 -7h8z"))
    (arrow_by line tip from (bar_of lane + distance_of_tip lane + 5) (bar_of lane + distance_of_tip lane) (codes "l-4 7h8z"))

-- an arrow to the process that is freed, if one is
abbrev pub freed_arrow : Layout → Point → Option ℕ → List Shape
freed_arrow layout from None = []
freed_arrow layout from (Some freed) = arrow (codes "frees") (codes "tip") from (lane_in layout freed)

-- the line from a column to its knot, if the column shows a position in the history
abbrev pub drop_line : Layout → Point → Seen → List Shape
drop_line layout from column = cond (is_some (taken_in column)) (line_from (codes "drop") from (point from.x (knot_of layout)) ∷ []) []

-- the bracket that shows how long a read was open, at the middle line of its reader, and the line to the process whose bit it read
abbrev pub open_by : ℕ → ℕ → ℕ → ℕ → List Shape
open_by begin x reader owner =
    path_from (codes "open") (point begin (reader + 9)) (codes "V" ++ decimal (reader + 15) ++ codes "H" ++ decimal x ++ codes "V" ++ decimal (reader + 9))
    ∷ line_from (codes "of") (point x (cond (nat_lt reader owner) (reader + 15) reader)) (point x owner) ∷ []

abbrev pub open_shapes : SeenBand → OverlappedRead → ℕ → List Shape
open_shapes band read x = open_by (event_position read.begin (52, band.before_at) band.columns) x (bar_of (lane_in band.layout read.reader)) (bar_of (lane_in band.layout read.owner))

-- that bracket and line, if a column shows a read
abbrev pub open_from : SeenBand → ℕ → Option OverlappedRead → List Shape
open_from band x None = []
open_from band x (Some read) = open_shapes band read x

-- the shapes from a column in the lane of a process to other lanes: the arrow to the process that it frees, the line to its knot, and its read
abbrev pub links_from : SeenBand → Seen → Point → List Shape
links_from band column from = freed_arrow band.layout from column.frees ++ drop_line band.layout from column ++ open_from band column.x column.read

abbrev pub links_in : SeenBand → Seen → Option ℕ → List Shape
links_in band column None = []
links_in band column (Some p) = links_from band column (point column.x (bar_of (lane_in band.layout p)))

abbrev pub links : SeenBand → Seen → List Shape
links band column = links_in band column column.lane

-- the stretch of a bar from the left edge on
abbrev pub first_stretch : State → ℕ → Stretch
first_stretch before p = record { from = 52; pad = 5; word = word_of before p; is_said = false }

-- the words in the bars of a lane, if it has columns
abbrev pub words_of_lane : SeenBand → ℕ → List Shape
words_of_lane band p = words_from p (bar_of (lane_in band.layout p) + 3) band.layout.end (first_stretch band.before p) band.columns

abbrev pub lane_words : SeenBand → ℕ → List Shape
lane_words band p = cond (lane_in band.layout p).is_full (words_of_lane band p) []

-- the point this far to the right of another; its x is at most the greatest number of 32 bits
abbrev pub right_by : Point → ℕ → Point
right_by at right = record { x = min (at.x + right) (2 ^ 32 - 1); y = at.y }

-- where the rows of a column begin
abbrev pub rows_place : Point → Point
rows_place head = down_by (right_by head 3) 23

-- the position of a row: the given point for the first row, and the next row below it for any other
abbrev pub place_of_row : Point → ℕ → Point
place_of_row at number = cond (number == 0) at (down_by at 11)

-- a row, if it is to be drawn
abbrev pub row_shapes : Bool → Bool → Point → ℕ → Wording → List Shape
row_shapes is_drawn is_refusal at number row = cond is_drawn (Label (row_class row.is_verb is_refusal) (place_of_row at number) row.text ∷ []) []

-- The rows of a line, numbered from `number`. If the line is alone in its column, all of them are drawn; otherwise only the row with the number `place` is.
abbrev pub rows_shapes : Bool → ℕ → Bool → Point → ℕ → List Wording → List Shape
rows_shapes is_alone place is_refusal at number [] = []
rows_shapes is_alone place is_refusal at number (row ∷ rows) =
    row_shapes (is_alone || (number == place)) is_refusal at number row ++ rows_shapes is_alone place is_refusal at (number + 1) rows

abbrev pub rows_of_line : Seen → ℕ → Bool → Point → List Shape
rows_of_line column place is_refusal at = rows_shapes (length column.lines == 1) place is_refusal at 0 column.rows

-- The attributes of a mark: its position, the line of the scenario that made it, the store after it if it changed, and, for the
-- last line of its column, the line of tickets after the column.
abbrev pub store_said : Option TakenChange → List Said
store_said None = []
store_said (Some change) = (key.Store, change.store.items) ∷ []

abbrev pub queue_said : Bool → List ℕ → List Said
queue_said is_last queue = cond is_last ((key.Queue, queue) ∷ []) []

-- all attributes of a mark, where `queue` is the line of tickets
abbrev pub mark_said : ℕ → RunLine → Bool → List ℕ → List Said
mark_said x line is_last queue = (key.Place, decimal x) ∷ (key.Source, decimal line.source) ∷ (store_said (change_reported line.line_content) ++ queue_said is_last queue)

abbrev pub mark_shape : Seen → RunLine → Bool → Shape
mark_shape column line is_last = Mark (mark_said column.x line is_last (queue_text column.after)) (text_of line)

-- the pair that a command changed, below its knot
abbrev pub pair_words : Option TakenChange → Point → List Shape
pair_words None knot = []
pair_words (Some change) knot = Label (codes "store") (down_by (moved_by knot 6 0) 22) (string_bytes change.pair) ∷ []

-- the sign of a line, at the foot of its column and, if the line shows a position in the history, also at its knot
abbrev pub foot_by : SeenBand → Seen → RunLine → Point → Option ℕ → List Shape
foot_by band column line foot None = sign line.line_content (moved_by foot (cond (settles_and_takes_in column) 15 0) 0)
foot_by band column line foot (Some place) =
    sign line.line_content foot ++ sign line.line_content (point foot.x (knot_of band.layout)) ++ pair_words (change_reported line.line_content) (point foot.x (knot_of band.layout))

abbrev pub foot_shapes : SeenBand → Seen → RunLine → Point → List Shape
foot_shapes band column line foot = foot_by band column line foot (place_reported line.line_content)

-- the group of a line in the lane of its process
abbrev pub line_shapes : SeenBand → Seen → Point → Point → ℕ → RunLine → List Shape
line_shapes band column head foot place line =
    mark_shape column line (place == length column.lines - 1)
    ∷ (rows_of_line column place (reports_refusal line.line_content) (rows_place head) ++ foot_shapes band column line foot ++ End ∷ [])

-- the groups of lines, numbered from `place`
abbrev pub lines_shapes : SeenBand → Seen → Point → Point → ℕ → List RunLine → List Shape
lines_shapes band column head foot place [] = []
lines_shapes band column head foot place (line ∷ lines) = line_shapes band column head foot place line ++ lines_shapes band column head foot (place + 1) lines

-- the words of a read; its title is not a line of the run
abbrev pub read_shapes : OverlappedRead → Point → List Shape
read_shapes read at = Note (title_text read) ∷ Label (codes "saw") at (saw_text read) ∷ Label (codes "of-what") (down_by at 11) (bit_text read) ∷ End ∷ []

abbrev pub read_words : Option OverlappedRead → Point → List Shape
read_words None at = []
read_words (Some read) at = read_shapes read at

-- the number of an event, if it is one
abbrev pub number_words : Option ℕ → Point → List Shape
number_words None head = []
number_words (Some event) head = Label (codes "event") (down_by (right_by head 3) 12) (decimal event) ∷ []

-- the pole of a column, its number, and its read
abbrev pub head_shapes : Seen → Point → Point → List Shape
head_shapes column head foot =
    line_from (codes "pole") (down_by head 5) foot
    ∷ (number_words column.event head
    ++ read_words column.read (rows_place head))

-- the group of a line in the lane of the history
abbrev pub note_shapes : SeenBand → Seen → ℕ → RunLine → List Shape
note_shapes band column place line =
    mark_shape column line (place == length column.lines - 1) ∷ line_from (codes "pole") (point column.x (knot_of band.layout)) (down_by (point column.x (knot_of band.layout)) 36)
    ∷ (sign line.line_content (point column.x (knot_of band.layout)) ++ rows_of_line column place false (point (column.x + 4) (knot_of band.layout + 23)) ++ End ∷ [])

-- the groups of such lines, numbered from `place`
abbrev pub notes_shapes : SeenBand → Seen → ℕ → List RunLine → List Shape
notes_shapes band column place [] = []
notes_shapes band column place (line ∷ lines) = note_shapes band column place line ++ notes_shapes band column (place + 1) lines

-- a column, in the lane of its process or in the lane of the history
abbrev pub column_in : SeenBand → Seen → Lane → List Shape
column_in band column lane =
    head_shapes column (point column.x lane.top) (point column.x (bar_of lane))
    ++ lines_shapes band column (point column.x lane.top) (point column.x (bar_of lane)) 0 column.lines

abbrev pub column_by : SeenBand → Seen → Option ℕ → List Shape
column_by band column None = notes_shapes band column 0 column.lines
column_by band column (Some p) = column_in band column (lane_in band.layout p)

abbrev pub column_shapes : SeenBand → Seen → List Shape
column_shapes band column = column_by band column column.lane

-- the position at which the first shade begins, if a process is inside before the band
abbrev pub from_left : Option ℕ → Option ℕ
from_left None = None
from_left (Some p) = Some 52

abbrev pub first_inside : State → Option ℕ
first_inside before = from_left before.inside

-- the accesses of a process
abbrev pub lane_accesses : SeenBand → SeenAccesses → ℕ → List Shape
lane_accesses band accesses p = accesses_from (lane_in band.layout p) p band.layout.end (open_of accesses.open_accesses p) 52 band.columns

-- all shapes of a band, in the order in which they are drawn, with these accesses open at its left edge, and with these waves
abbrev pub band_shapes : SeenBand → SeenAccesses → List Shape
band_shapes band accesses =
    shades band.layout.chain band.layout.end (first_inside band.before) band.columns
    ++ flat_map (guide band.layout) band.columns
    ++ axis band.subject band.layout.end 52 band.columns
    ++ for_each (lane_shapes band) band.before.processes
    ++ chain_shapes band
    ++ flat_map (links band) band.columns
    ++ for_each (lane_accesses band accesses) band.before.processes
    ++ flat_map (ties band.layout) band.columns
    ++ flat_map (begun band.layout) band.columns
    ++ waves_from band.layout band.columns 0 accesses.waves
    ++ for_each (lane_words band) band.before.processes
    ++ flat_map (column_shapes band) band.columns
