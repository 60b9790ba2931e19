-- The initial memory, and the memory of a setup.
use Rattle.std.specs.Prelude.{◌≡◌, ◌<◌, ◌==◌, ℕ, ◌*◌, ◌/◌, ◌%◌, Bool, false, if◌then◌else◌, List, length, map, replicate, slice_index_or}
use Rattle.std.specs.List.{range_with_len}
use Rattle.safe_bit.specs.Cell.{Cell, new_cell}
use Rattle.plain_store.specs.{Setup}
use Rattle.model.specs.{Field, fields, width}
use Rattle.model.specs.declared.access.Field.TheVariants.{Image1}
use Rattle.registers.specs.Memory.{lane_of}

-- the field of this number in their order
abbrev pub field_numbered : ℕ → Field
field_numbered number = slice_index_or fields number Image1

-- an initial lane: the first image of process 0 holds these bits, and each other bit is 0
abbrev pub opening_lane : Setup → List Bool → ℕ → List Cell
opening_lane s image lane = if lane / s.processes == 5 then map new_cell image else replicate (width s (field_numbered (lane / s.processes % 7))) (new_cell false)

-- all initial lanes of a setup
abbrev pub opening_memory : Setup → List Bool → List (List Cell)
opening_memory s image = map (opening_lane s image) (range_with_len 0 (7 * s.processes * s.processes))

-- the memory has the lanes of a setup, each in its width
pub record AreOf (s : Setup) (memory : List (List Cell)) : Type 0 where
  pub lanes : length memory ≡ 7 * s.processes * s.processes
  pub widths : (lane : ℕ) → lane < length memory → length (lane_of memory lane) ≡ width s (field_numbered (lane / s.processes % 7))

-- both memories are of one setup
abbrev pub AreOfOneSetup : List (List Cell) → List (List Cell) → Type 0
AreOfOneSetup memory other = (s : Setup) × AreOf s memory × AreOf s other
