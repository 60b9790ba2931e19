-- The verdict below the last band, and what it names in the band.
use Rattle.std.specs.Prelude.{ℕ, ◌+◌, ◌-◌, ◌*◌, Bool, false, ◌==◌, ◌||◌, cond, is_some, min, nat_lt, unwrap_or, List, [], ◌∷◌, ◌++◌, codes, flat_map, length, Option, None, Some}
use Rattle.std.specs.Fmt.{decimal}
use Rattle.markup.specs.{Block, End, Label, Mark, Point, Said, Shape}
use Rattle.markup.specs.declared.names.Key.TheVariants as key
use Rattle.picture_layout.specs.{Lane, Layout, Seen, SeenAccesses, bar_of, boxes_of, capped, event_position, lane_in, open_of, shows_access}
use Rattle.picture.specs.Bars.{point}
use Rattle.shown_verdict.specs.{SeenLine, SeenVerdict, naming, seen_verdict, verdict_titles}
use Rattle.picture.specs.Drawings.{SeenBand, arrow, band_shapes, last_in}
use Rattle.shown_verdict.specs.declared.verdicts.FirstBadEntry.{FirstBadEntry}
use Rattle.shown_verdict.specs.declared.verdicts.Pointer.{Pointer}
use Rattle.shown_verdict.specs.declared.verdicts.PointerKind.{PointerKind}
use Rattle.shown_verdict.specs.declared.verdicts.PointerKind.TheVariants as kind
use Rattle.shown_verdict.specs.declared.verdicts.ShownVerdict.{ShownVerdict}

-- the titles of the lines of a verdict, if there is one
abbrev pub titles_if : Option ShownVerdict → List (List ℕ)
titles_if None = []
titles_if (Some verdict) = verdict_titles (seen_verdict verdict)

-- whether a column is that of an entry
abbrev pub is_column_of : ℕ → Option ℕ → Bool
is_column_of entry None = false
is_column_of entry (Some event) = event == entry

-- where the last column is, if it is that of the bad entry
abbrev pub bad_among : FirstBadEntry → Option Seen → Option ℕ
bad_among bad None = None
bad_among bad (Some column) = cond (is_column_of bad.entry column.event) (Some column.x) None

abbrev pub bad_place : Option FirstBadEntry → List Seen → Option ℕ
bad_place None columns = None
bad_place (Some bad) columns = bad_among bad (last_in columns)

-- where what is named ends in a band without the bad entry: at the right end of the lanes or, if that entry comes before the window, which then has no columns, at the left edge, so that nothing is outlined
abbrev pub edge_without : Option FirstBadEntry → ℕ → List Seen → ℕ
edge_without (Some bad) end [] = 52
edge_without _ end columns = end

-- the right edge of what is named: the column of the bad entry, if the band has it
abbrev pub edge_of : Option FirstBadEntry → SeenBand → ℕ
edge_of bad band =
    unwrap_or (bad_place bad band.columns) (edge_without bad band.layout.end band.columns)

-- the column of the bad entry, if the band has it
abbrev pub bad_column : Layout → Option ℕ → List Shape
bad_column layout None = []
bad_column layout (Some x) = Block (codes "bad") (point (x - 3) 20) 14 (layout.height - 20) ∷ []

-- where words of this number of characters begin: at a place, or further left, so that they end in the picture
abbrev pub words_begin : ℕ → ℕ → ℕ
words_begin x characters = min x (1194 - capped (characters * 6))

-- the words at an outline
abbrev pub words_at : List ℕ → Point → Shape
words_at words at = Label (codes "because") (point (words_begin at.x (length words)) at.y) words

abbrev pub because : Pointer → Point → Shape
because pointer = words_at (naming pointer.kind ++ decimal pointer.since)

-- the outline of the bar of a lane from one place to another, and its words
abbrev pub named_bar : Lane → Pointer → ℕ → ℕ → List Shape
named_bar lane pointer from to = cond lane.is_full
    (Block (codes "named") (point from (bar_of lane - 14)) (to - from) 28 ∷ because pointer (point (from + 2) (bar_of lane + 23)) ∷ [])
    (Block (codes "named") (point from (bar_of lane - 6)) (to - from) 12 ∷ because pointer (point (from + 4) (bar_of lane + 3)) ∷ [])

-- the outline of the boxes of accesses of a lane, and its words
abbrev pub named_boxes : Lane → Pointer → ℕ → ℕ → List Shape
named_boxes lane pointer from to =
    Block (codes "named") (point from (boxes_of lane - 2)) (to - from) 32 ∷ because pointer (point (from + 2) (boxes_of lane + 38)) ∷ []

-- the arrow from the bar of a process to the lane of the bad one, if that is another one
abbrev pub blame : Layout → Option FirstBadEntry → ℕ → ℕ → List Shape
blame layout None p x = []
blame layout (Some bad) p x =
    cond (bad.process == p) [] (arrow (codes "blame") (codes "blame-tip") (point x (bar_of (lane_in layout p))) (lane_in layout bad.process))

-- whether a band shows accesses in the lane of a process: one is open at its left edge, or a column shows one
abbrev pub shows_accesses : SeenBand → SeenAccesses → ℕ → Bool
shows_accesses band accesses p = is_some (open_of accesses.open_accesses p) || shows_access band.columns p

-- what is outlined of a process from one place to another
abbrev pub outline : SeenBand → SeenAccesses → Option FirstBadEntry → Pointer → PointerKind → ℕ → ℕ → List Shape
outline band accesses bad pointer kind.Waits from to =
    named_bar (lane_in band.layout pointer.process) pointer from to ++ blame band.layout bad pointer.process (to - 4)
outline band accesses bad pointer kind.Inside from to =
    named_bar (lane_in band.layout pointer.process) pointer from to ++ blame band.layout bad pointer.process (to - 4)
outline band accesses bad pointer kind.Doorway from to = named_bar (lane_in band.layout pointer.process) pointer from to
outline band accesses bad pointer kind.Open from to =
    cond (shows_accesses band accesses pointer.process) (named_boxes (lane_in band.layout pointer.process) pointer from to) []
outline band accesses bad pointer kind.Torn from to =
    cond (shows_accesses band accesses pointer.process) (named_boxes (lane_in band.layout pointer.process) pointer from to) []

-- the same from a place up to the edge, if the place is left of the edge
abbrev pub outline_from : SeenBand → SeenAccesses → Option FirstBadEntry → Pointer → ℕ → ℕ → List Shape
outline_from band accesses bad pointer from edge = cond (nat_lt from edge) (outline band accesses bad pointer pointer.kind from edge) []

abbrev pub outline_if : SeenBand → SeenAccesses → Option FirstBadEntry → ℕ → Option Pointer → List Shape
outline_if band accesses bad edge None = []
outline_if band accesses bad edge (Some pointer) =
    outline_from band accesses bad pointer (event_position pointer.since (52, band.before_at) band.columns) edge

-- what a line of a verdict names
abbrev pub outline_of : SeenBand → SeenAccesses → Option FirstBadEntry → ℕ → SeenLine → List Shape
outline_of band accesses bad edge line = outline_if band accesses bad edge line.points

-- how high this number of lines is
abbrev pub lines_height : ℕ → ℕ
lines_height number = capped (number * 13)

-- the sentence of a verdict, if it has one
abbrev pub sentence_at : ℕ → List ℕ → List Shape
sentence_at top [] = []
sentence_at top (byte ∷ sentence) = Label (codes "sentence") (point 18 (top + 18)) (byte ∷ sentence) ∷ []

-- the key of what is drawn in the band in a style, and both keys, if there is a bad entry
abbrev pub key_of : List ℕ → ℕ → ℕ → ℕ → List ℕ → List Shape
key_of style top x width words = Block style (point x (top + 6)) width 16 ∷ Label (codes "key") (point (x + width + 6) (top + 18)) words ∷ []

abbrev pub keys_at : ℕ → List Shape
keys_at top =
    key_of (codes "bad") top 600 14 (codes "the bad entry")
    ++ key_of (codes "named") top 715 24 (codes "what the verdict names; an arrow leads to who breaks the law")

abbrev pub keys_if : ℕ → Option FirstBadEntry → List Shape
keys_if top None = []
keys_if top (Some bad) = keys_at top

-- the style of the box: that of a verdict without a bad entry is not red
abbrev pub ruling_style : Option FirstBadEntry → List ℕ
ruling_style None = codes "ruling kept"
ruling_style (Some bad) = codes "ruling"

-- the box of a verdict, without its lines
abbrev pub box_at : ℕ → SeenVerdict → List Shape
box_at top verdict =
    Block (ruling_style verdict.bad) (point 8 top) 1180 (lines_height (length verdict.lines) + 34)
    ∷ (sentence_at top verdict.sentence ++ keys_if top verdict.bad)

-- what the attributes of a line's mark say: that it is at the edge, and the line that it comes from
abbrev pub line_said : ℕ → ℕ → List Said
line_said edge source = (key.Place, decimal edge) ∷ (key.Source, decimal source) ∷ []

-- a line: its mark, and its words
abbrev pub verdict_line : ℕ → ℕ → ℕ → SeenLine → List Shape
verdict_line edge source y line =
    Mark (line_said edge source) line.title ∷ Label (codes "rest") (point 18 y) line.words ∷ End ∷ []

-- the lines from this number on
abbrev pub lines_from : ℕ → ℕ → ℕ → ℕ → List SeenLine → List Shape
lines_from edge source top number [] = []
lines_from edge source top number (line ∷ lines) =
    verdict_line edge source (top + 36 + lines_height number) line ++ lines_from edge source top (number + 1) lines

-- a verdict: the column of the bad entry, what its lines name up to an edge, and its box, which has its top there
abbrev pub verdict_by : SeenVerdict → SeenBand → SeenAccesses → ℕ → ℕ → List Shape
verdict_by verdict band accesses edge top =
    bad_column band.layout (bad_place verdict.bad band.columns)
    ++ flat_map (outline_of band accesses verdict.bad edge) verdict.lines
    ++ box_at top verdict
    ++ lines_from edge verdict.source top 0 verdict.lines

abbrev pub verdict_shapes : SeenVerdict → SeenBand → SeenAccesses → List Shape
verdict_shapes verdict band accesses = verdict_by verdict band accesses (edge_of verdict.bad band) (band.layout.height + 8)

-- all of a band, with a verdict, if there is one
abbrev pub judged_shapes : Option ShownVerdict → SeenBand → SeenAccesses → List Shape
judged_shapes None band accesses = band_shapes band accesses
judged_shapes (Some verdict) band accesses = band_shapes band accesses ++ verdict_shapes (seen_verdict verdict) band accesses

-- how high a verdict is, with 8 pixels above it and 4 below it
abbrev pub room_of_verdict : SeenVerdict → ℕ
room_of_verdict verdict = lines_height (length verdict.lines) + 46

-- how high a band is, with a verdict, if there is one
abbrev pub height_with : Option ShownVerdict → ℕ → ℕ
height_with None height = height
height_with (Some verdict) height = height + room_of_verdict (seen_verdict verdict)
