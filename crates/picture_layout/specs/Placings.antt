-- The positions of the columns of a band.
use Rattle.std.specs.Prelude.{ℕ, ◌+◌, ◌-◌, ◌*◌, ◌/◌, max, min, Bool, true, false, ◌==◌, ◌&&◌, ◌||◌, cond, is_none, nat_le, nat_lt, List, [], ◌∷◌, get_or, map, replicate, set, Option, None, Some, unwrap_or}
use Rattle.std.specs.Int.{leading_zeros, w64}
use Rattle.picture_layout.specs.Columns.{Seen, capped, width_below_of, width_of}
use Rattle.picture_layout.specs.Overlaps.{between}
use Rattle.picture_layout.specs.declared.placing.ColumnPosition.{ColumnPosition}
use Rattle.picture_layout.specs.declared.placing.WordEnds.{WordEnds}

-- the number of binary digits of a number of 64 bits, which is 0 for 0
abbrev pub doublings : ℕ → ℕ
doublings n = 64 - leading_zeros w64 n

-- the start of a band; `opening` is the number of characters with which the history begins in the first one
abbrev pub placing_at_first : ℕ → WordEnds
placing_at_first opening = record { last = None; lanes = replicate 16 0; below = cond (opening == 0) 0 (capped (7 * opening + 72)) }

-- the end of the words in a lane so far
abbrev pub end_in : List ℕ → Option ℕ → ℕ
end_in lanes None = 0
end_in lanes (Some p) = get_or lanes p 0

-- the width that the words of a column need, in its lane and in that of the history
abbrev pub room_of : Seen → ℕ
room_of column = max (elim column.lane [ None ↦ 0 | Some p ↦ width_of column ]) (unwrap_or (width_below_of column) 0)

-- the left edge of a column: at a distance after the one before, and after the words of its lanes
abbrev pub left_of : WordEnds → Seen → ℕ
left_of placing column =
    max (max (capped (unwrap_or placing.last 52 + 12 + 4 * doublings column.gap)) (end_in placing.lanes column.lane))
    (elim (width_below_of column) [ None ↦ 0 | Some width ↦ placing.below ])

-- the position of a column: its left edge, and the end of its words
abbrev pub place_of : WordEnds → Seen → ColumnPosition
place_of placing column = record { x = left_of placing column; end = capped (left_of placing column + room_of column) }

-- whether a band has room for a column, which an empty band always has
abbrev pub has_room_at : WordEnds → ColumnPosition → Bool
has_room_at placing place = is_none placing.last || nat_le place.end 1188

-- the ends of the words in the lanes, with a new end in one of them
abbrev pub lanes_ended : List ℕ → Option ℕ → ℕ → List ℕ
lanes_ended lanes None end = lanes
lanes_ended lanes (Some p) end = set lanes p end

-- the ends of the words in the lanes, after a column is put there
abbrev pub lanes_put : List ℕ → Seen → ℕ → List ℕ
lanes_put lanes column x = lanes_ended lanes column.lane (capped (x + width_of column))

abbrev pub below_put : ℕ → Seen → ℕ → ℕ
below_put below column x = elim (width_below_of column) [ None ↦ below | Some width ↦ capped (x + width) ]

-- the band, after a column is put there
abbrev pub put_at : WordEnds → Seen → ℕ → WordEnds
put_at placing column x = record { last = Some x; lanes = lanes_put placing.lanes column x; below = below_put placing.below column x }

-- a column with this position
abbrev pub moved_to : Seen → ℕ → Seen
moved_to column x = record column { x = x }

-- the position of the last column of a band, or the left edge if it has no column
abbrev pub last_of : List Seen → ℕ
last_of [] = 52
last_of (column ∷ []) = column.x
last_of (column ∷ next ∷ columns) = last_of (next ∷ columns)

-- the end of the last words of a band
abbrev pub end_of_words : List Seen → ℕ
end_of_words [] = 0
end_of_words (column ∷ columns) = max (capped (column.x + room_of column)) (end_of_words columns)

-- the position of an event after the column of position and event `left`: before the first column that is not before the
-- event, in proportion to the number of events between
abbrev pub event_position : ℕ → ℕ × ℕ → List Seen → ℕ
event_position event left [] = left.0
event_position event left (column ∷ columns) = cond (nat_le event column.at) (between event left (column.x, column.at)) (event_position event (column.x, column.at) columns)

-- the position of a column, when all columns of a band are spread over `new` pixels in place of `old`
abbrev pub drawn_apart : ℕ → ℕ → Seen → Seen
drawn_apart old new column = moved_to column (capped (52 + (column.x - 52) * new / old))

-- the width of a band when it is drawn apart: all free pixels, and at most half as many again
abbrev pub widened : ℕ → ℕ → ℕ
widened last end = min (1136 - (end - last)) ((last - 52) * 3 / 2)

-- the columns of a band, drawn apart to fill its width
abbrev pub stretched_to : List Seen → ℕ → ℕ → List Seen
stretched_to columns old new = elim (nat_lt 0 old && nat_lt old new) [ true ↦ map (drawn_apart old new) columns | false ↦ columns ]

abbrev pub stretched_all : List Seen → List Seen
stretched_all columns = stretched_to columns (last_of columns - 52) (widened (last_of columns) (end_of_words columns))
