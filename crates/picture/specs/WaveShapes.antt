-- What a band draws of the waves of registers.
use Rattle.std.specs.Prelude.{ℕ, ◌+◌, ◌-◌, ◌*◌, Bool, true, false, ◌==◌, cond, nat_le, List, [], ◌∷◌, ◌++◌, codes, Option, None, Some}
use Rattle.std.specs.Str.{bytes_eq}
use Rattle.markup.specs.{Block, Label, Shape, line_from}
use Rattle.picture_layout.specs.{Layout, Seen, SeenWave, WaveChange, capped, change_in, characters_of, wave_row}
use Rattle.picture.specs.Bars.{point}

-- the height of the line of a value: that of 0 lies below
abbrev pub level_of : List ℕ → ℕ
level_of value = cond (bytes_eq value (codes "0")) 26 14

-- a value, if it has room between these places
abbrev pub value_label : ℕ → List ℕ → ℕ → ℕ → List Shape
value_label y value from to = cond (nat_le (capped (characters_of value * 7 + 8)) (to - from)) (Label (codes "cell") (point (from + 4) (y + 24)) value ∷ []) []

-- a wave from one place to another: a box while a write is open, and else a line at the height of its value, with the value
abbrev pub wave_part : ℕ → List ℕ → Bool → ℕ → ℕ → List Shape
wave_part y value true from to = Block (codes "unsure") (point from (y + 13)) (to - from) 14 ∷ []
wave_part y value false from to =
    line_from (codes "wave") (point from (y + level_of value)) (point to (y + level_of value)) ∷ value_label y value from to

-- a change, if it is one of this row
abbrev pub change_if : ℕ → Option WaveChange → Option WaveChange
change_if row None = None
change_if row (Some change) = cond (change.row == row) (Some change) None

-- where the next change of a row is in columns, or where their lanes end
abbrev pub place_if : ℕ → ℕ → Option WaveChange → ℕ
place_if x next None = next
place_if x next (Some change) = x

abbrev pub next_change : ℕ → ℕ → List Seen → ℕ
next_change row end [] = end
next_change row end (column ∷ columns) = place_if column.x (next_change row end columns) (change_if row (change_in column))

-- what a change draws: an edge, and the wave up to the next change
abbrev pub change_shapes : ℕ → ℕ → ℕ → Option WaveChange → List Shape
change_shapes y x next None = []
change_shapes y x next (Some change) =
    line_from (codes "wave") (point x (y + 13)) (point x (y + 27)) ∷ wave_part y change.value.items change.is_open x next

-- the wave of a row behind each of its changes in columns
abbrev pub wave_from : ℕ → ℕ → ℕ → List Seen → List Shape
wave_from row y end [] = []
wave_from row y end (column ∷ columns) =
    change_shapes y column.x (next_change row end columns) (change_if row (change_in column)) ++ wave_from row y end columns

-- the wave of a row: its name, its value at the left edge, and its changes
abbrev pub wave_shapes : Layout → List Seen → ℕ → SeenWave → List Shape
wave_shapes layout columns row wave =
    Label (codes "cell") (point 8 (wave_row layout row + 8)) wave.name
    ∷ (wave_part (wave_row layout row) wave.value wave.is_open 52 (next_change row layout.end columns)
    ++ wave_from row (wave_row layout row) layout.end columns)

-- the waves from this row on
abbrev pub waves_from : Layout → List Seen → ℕ → List SeenWave → List Shape
waves_from layout columns row [] = []
waves_from layout columns row (wave ∷ waves) = wave_shapes layout columns row wave ++ waves_from layout columns (row + 1) waves
