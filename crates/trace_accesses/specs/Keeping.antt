-- What is kept of the entries so far.
use Rattle.std.specs.Prelude.{◌≡◌, ℕ, ◌+◌, ◌*◌, ◌≤◌, Bool, true, false, ◌&&◌, ◌||◌, IsTrue, List, [], ◌∷◌, cond, get_or, length, replicate, slice_set, Option, None, Some, is_none}
use Rattle.std.specs.Option.{option_map_or}
use Rattle.trace.specs.{Cell, CellAccess, TracePast, TraceSetup, is_trace_setup, writes}
use Rattle.trace_memory.specs.{HasMade, MemoryState, OpenAccess, has_cell, place_of, same_cell}
use Rattle.picture_layout.specs.declared.limits.WaveLimit.{WaveLimit}
use Rattle.trace_accesses.specs.Accesses.{possible_past}
use Rattle.trace_accesses.specs.Rows.{row_in, waves_since}

-- Open accesses, as memory keeps them.

-- the number of the entry with which an open access began, or this number
abbrev pub kept_begin : ℕ → Option OpenAccess → ℕ
kept_begin number kept = option_map_or (λ k. k.entry) kept number

-- an access overlaps an open one: the two are of one cell, and one of them writes
abbrev pub kept_overlaps : CellAccess → Option OpenAccess → Bool
kept_overlaps a kept = option_map_or (λ k. same_cell k.cell a.cell && (writes a.how || is_none k.allowed)) kept false

-- Rows.

-- the row of each cell, where memory keeps its state, and the number of rows
pub record RowsState : Type 0 where
  pub places : List (Option ℕ)
  pub count : ℕ

-- the number of places that have a row
abbrev pub rows_in : List (Option ℕ) → ℕ
rows_in [] = 0
rows_in (None ∷ places) = rows_in places
rows_in (Some row ∷ places) = rows_in places + 1

-- at most 64 registers of 16 places have rows, and these are counted
pub record IsRows (r : RowsState) : Type 0 where
  pub few : length r.places ≤ 1024
  pub count : r.count ≡ rows_in r.places

-- no row, for this number of places
abbrev pub no_rows : ℕ → RowsState
no_rows places = record { places = replicate places None; count = 0 }

-- the row of a place
abbrev pub row_at : RowsState → ℕ → Option ℕ
row_at r place = get_or r.places place None

-- with a row for a place, if it has none
abbrev pub begun_if : Option ℕ → ℕ → RowsState → RowsState
begun_if (Some row) place r = r
begun_if None place r = record { places = slice_set r.places place (Some r.count); count = r.count + 1 }

abbrev pub rows_begun : ℕ → RowsState → RowsState
rows_begun place r = begun_if (row_at r place) place r

-- after an access to a cell, which counts or not
abbrev pub rows_taken : Bool → Cell → RowsState → RowsState
rows_taken counts c r = cond counts (rows_begun (place_of c) r) r

-- these are the rows of the cells
pub record HasRows (s : TraceSetup) (r : RowsState) (rows : List Cell) : Type 0 where
  pub places : (c : Cell) → IsTrue (has_cell s c) → row_at r (place_of c) ≡ row_in rows c
  pub count : r.count ≡ length rows

-- The monitor.

-- the memory, the rows, the limit of waves, and the number of entries
pub record MonitorState : Type 0 where
  pub memory : MemoryState
  pub rows : RowsState
  pub limit : WaveLimit
  pub entries : ℕ

-- the setup is in range, and each cell has its place
pub record IsMonitor (w : MonitorState) : Type 0 where
  pub good : is_trace_setup w.memory.setup ≡ true
  pub places : length w.rows.places ≡ 16 * length w.memory.setup.registers

-- it has taken these entries, whose accesses are possible
pub record HasTaken (w : MonitorState) (past : TracePast) : Type 0 where
  pub made : HasMade w.memory past
  pub rows : HasRows w.memory.setup w.rows (waves_since w.limit.from past)
  pub entries : w.entries ≡ length past

-- this holds of each past that was taken
abbrev pub OfTaken : MonitorState → (TracePast → Type 0) → Type 0
OfTaken w P = (past : TracePast) → HasTaken w past → P past

-- the monitor has observed these entries of a trace with this setup, and shows the waves within this limit
pub record HasMonitored (w : MonitorState) (s : TraceSetup) (limit : WaveLimit) (past : TracePast) : Type 0 where
  pub setup : w.memory.setup ≡ s
  pub shows : w.limit ≡ limit
  pub taken : HasTaken w (possible_past s past)
