-- The positions of the lanes of a band.
use Rattle.std.specs.Prelude.{ℕ, zero, suc, ◌+◌, ◌*◌, Bool, false, ◌==◌, ◌&&◌, ◌||◌, cond, is_none, is_some, min, nat_lt, List, [], ◌∷◌, ◌++◌, get_or, length, Option, None, Some, option_and_then}
use Rattle.picture_layout.specs.AccessStates.{SeenAccesses}
use Rattle.picture_layout.specs.Columns.{Seen, capped, taken_in}
use Rattle.picture_layout.specs.OpenAccesses.{open_of}
use Rattle.picture_layout.specs.Placings.{last_of}
use Rattle.picture_layout.specs.Reported.{change_reported}
use Rattle.picture_layout.specs.declared.layout.Lane.{Lane}
use Rattle.picture_layout.specs.declared.layout.Layout.{Layout}

-- whether a column lies in the lane of a process
abbrev pub lies_in : ℕ → Option ℕ → Bool
lies_in p None = false
lies_in p (Some q) = q == p

-- whether one of these columns lies there
abbrev pub has_column : List Seen → ℕ → Bool
has_column [] p = false
has_column (column ∷ columns) p = lies_in p column.lane || has_column columns p

-- the height of a lane
abbrev pub lane_height : Bool → ℕ
lane_height full = cond full 70 18

-- whether one of these columns shows an access in the lane of a process
abbrev pub shows_access : List Seen → ℕ → Bool
shows_access [] p = false
shows_access (column ∷ columns) p = (lies_in p column.lane && is_some column.access) || shows_access columns p

-- the height of the room for accesses in a lane: it is 40 if an access of the process is open before the columns, or one of them shows one
abbrev pub access_room : SeenAccesses → List Seen → ℕ → ℕ
access_room accesses columns p = cond (is_some (open_of accesses.open_accesses p) || shows_access columns p) 40 0

-- the top of the lane of a process, below the lanes before it
abbrev pub top_of : SeenAccesses → List Seen → ℕ → ℕ
top_of accesses columns zero = 20
top_of accesses columns (suc p) =
    top_of accesses columns p + (lane_height (has_column columns p) + access_room accesses columns p)

-- the lane of a process; there are sixteen lanes, of which only those of existing processes have a position
abbrev pub lane_of : ℕ → SeenAccesses → List Seen → ℕ → Lane
lane_of processes accesses columns p = record {
  top = cond (nat_lt p processes) (top_of accesses columns p) 0;
  is_full = has_column columns p;
}

-- the first p lanes
abbrev pub first_lanes : ℕ → SeenAccesses → List Seen → ℕ → List Lane
first_lanes processes accesses columns zero = []
first_lanes processes accesses columns (suc p) = first_lanes processes accesses columns p ++ lane_of processes accesses columns p ∷ []

-- whether a column changes the store
abbrev pub changes : Seen → Bool
changes column = is_some (option_and_then (λ line. change_reported line.line_content) (taken_in column))

-- whether one of these columns lies in the lane of the history, and whether one changes the store
abbrev pub has_notes : List Seen → Bool
has_notes [] = false
has_notes (column ∷ columns) = is_none column.lane || has_notes columns

abbrev pub has_changes : List Seen → Bool
has_changes [] = false
has_changes (column ∷ columns) = changes column || has_changes columns

-- the height that the lane of the history needs below its knots: room for a line, or for a pair
abbrev pub room_below_of : List Seen → ℕ
room_below_of columns = cond (has_notes columns) 28 (cond (has_changes columns) 14 0)

-- the top of the lane of the history
abbrev pub chain_of : ℕ → SeenAccesses → List Seen → ℕ
chain_of processes accesses columns = top_of accesses columns (min processes 16) + 6

-- the top of the waves, below the history
abbrev pub waves_top : ℕ → SeenAccesses → List Seen → ℕ
waves_top processes accesses columns = chain_of processes accesses columns + 30 + room_below_of columns

-- the right end of the lanes
abbrev pub lanes_end : List Seen → Bool → ℕ
lanes_end [] is_last = 1188
lanes_end (column ∷ columns) is_last = cond is_last (capped (last_of (column ∷ columns) + 8)) 1188

-- the positions of the lanes of a band with these columns, and of its waves
abbrev pub layout_of : ℕ → SeenAccesses → List Seen → Bool → Layout
layout_of processes accesses columns is_last = record {
  lanes = first_lanes processes accesses columns 16;
  chain = chain_of processes accesses columns;
  waves = waves_top processes accesses columns;
  height = capped (waves_top processes accesses columns + capped (length accesses.waves * 30));
  end = lanes_end columns is_last;
}

-- the first and the last of some knots, with one more at this position
abbrev pub with_knot : Option (ℕ × ℕ) → ℕ → Option (ℕ × ℕ)
with_knot None x = Some (x, x)
with_knot (Some ends) x = Some (ends.0, x)

-- the first and the last knot of these columns, after those of others
abbrev pub knots_from : Option (ℕ × ℕ) → List Seen → Option (ℕ × ℕ)
knots_from ends [] = ends
knots_from ends (column ∷ columns) = knots_from (cond (is_some (taken_in column)) (with_knot ends column.x) ends) columns

-- the two ends of the chain, given the number of earlier positions and the end of the lanes: it begins at the left edge
-- if there is an earlier position, and in the last band it ends at the last knot
abbrev pub chain_by : ℕ → Bool → ℕ → Option (ℕ × ℕ) → Option (ℕ × ℕ)
chain_by places is_last end None = cond (places == 0) None (Some (52, end))
chain_by places is_last end (Some knots) = Some (cond (places == 0) knots.0 52, cond is_last knots.1 end)

abbrev pub chain_ends_of : ℕ → Bool → ℕ → List Seen → Option (ℕ × ℕ)
chain_ends_of places is_last end columns = chain_by places is_last end (knots_from None columns)

-- the lane of a process in a layout
abbrev pub lane_in : Layout → ℕ → Lane
lane_in layout p = get_or layout.lanes p (record { top = 20; is_full = false })

-- the middle line of a lane, and that of the lane of the history
abbrev pub bar_of : Lane → ℕ
bar_of lane = lane.top + cond lane.is_full 49 9

abbrev pub knot_of : Layout → ℕ
knot_of layout = layout.chain + 16

-- the top of the boxes of accesses in a lane
abbrev pub boxes_of : Lane → ℕ
boxes_of lane = lane.top + cond lane.is_full 74 22

-- the top of the row of a wave
abbrev pub wave_row : Layout → ℕ → ℕ
wave_row layout row = capped (layout.waves + capped (row * 30))
