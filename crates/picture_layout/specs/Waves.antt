-- The waves of registers: the value of each, and whether a write of it is open.
use Rattle.std.specs.Prelude.{ℕ, Bool, cond, nat_lt, List, [], ◌∷◌, ◌++◌, length, map, set, Option, None, Some, option_and_then}
use Rattle.std.specs.Global.{Vec}
use Rattle.picture_layout.specs.Columns.{Seen}
use Rattle.picture_layout.specs.declared.accesses.ShownAccess.{ShownAccess}
use Rattle.picture_layout.specs.declared.accesses.WaveChange.{WaveChange}
use Rattle.picture_layout.specs.declared.waves.Wave.{Wave}

-- a wave, with lists for its fields
pub record SeenWave : Type 0 where
  pub name : List ℕ
  pub value : List ℕ
  pub is_open : Bool

abbrev pub seen_wave : Wave → SeenWave
seen_wave wave = record { name = wave.name.items; value = wave.value.items; is_open = wave.is_open }

abbrev pub seen_waves : Vec Wave → List SeenWave
seen_waves waves = map seen_wave waves.items

-- the wave of a register before its first change, and after a change
abbrev pub wave_before : WaveChange → SeenWave
wave_before change = record { name = change.name.items; value = change.old.items; is_open = change.was_open }

abbrev pub wave_behind : WaveChange → SeenWave
wave_behind change = record { name = change.name.items; value = change.value.items; is_open = change.is_open }

-- the change of a wave by a column
abbrev pub change_in : Seen → Option WaveChange
change_in column = option_and_then (λ (access : ShownAccess). access.change) column.access

-- waves, and the wave of a change if it is new
abbrev pub row_begun : List SeenWave → Option WaveChange → List SeenWave
row_begun waves None = waves
row_begun waves (Some change) = cond (nat_lt change.row (length waves)) waves (waves ++ wave_before change ∷ [])

-- waves, and the waves that begin in columns, as they are before the columns
abbrev pub waves_begun : List SeenWave → List Seen → List SeenWave
waves_begun waves [] = waves
waves_begun waves (column ∷ columns) = waves_begun (row_begun waves (change_in column)) columns

-- waves after a change
abbrev pub row_set : List SeenWave → Option WaveChange → List SeenWave
row_set waves None = waves
row_set waves (Some change) = set waves change.row (wave_behind change)

-- waves after columns
abbrev pub waves_after : List SeenWave → List Seen → List SeenWave
waves_after waves [] = waves
waves_after waves (column ∷ columns) = waves_after (row_set waves (change_in column)) columns
