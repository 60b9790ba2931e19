-- The open accesses and the waves after columns.
use Rattle.std.specs.Prelude.{List, [], Option}
use Rattle.picture_layout.specs.Columns.{Seen}
use Rattle.picture_layout.specs.OpenAccesses.{first_open, none_open}
use Rattle.picture_layout.specs.Waves.{SeenWave, seen_waves, waves_after, waves_begun}
use Rattle.picture_layout.specs.declared.access_state.AccessState.{AccessState}
use Rattle.picture_layout.specs.declared.open_accesses.UnendedAccess.{UnendedAccess}

-- the open access of each process, and the waves
pub record SeenAccesses : Type 0 where
  pub open_accesses : List (Option UnendedAccess)
  pub waves : List SeenWave

abbrev pub seen_accesses : AccessState → SeenAccesses
seen_accesses state = record { open_accesses = state.open_accesses; waves = seen_waves state.waves }

-- before the first column
abbrev pub no_accesses : SeenAccesses
no_accesses = record { open_accesses = none_open; waves = [] }

-- at the left edge of columns, where the waves that begin in these columns are drawn too
abbrev pub accesses_at : SeenAccesses → List Seen → SeenAccesses
accesses_at before columns = record before { waves = waves_begun before.waves columns }

-- after these columns
abbrev pub accesses_after : SeenAccesses → List Seen → SeenAccesses
accesses_after at columns = record { open_accesses = first_open at.open_accesses columns 16; waves = waves_after at.waves columns }
