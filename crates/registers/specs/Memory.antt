-- A memory of safe bits: lanes of cells. A lane holds the copies that one reader has of one register, bit by bit.
use Rattle.std.specs.Prelude.{◌≡◌, ℕ, ◌<◌, ◌≤◌, ◌+◌, List, [], length, map, slice_index_or, slice_set}
use Rattle.safe_bit.specs.Cell.{Cell, cell_after, without_read}
use Rattle.safe_bit.specs.{Move}
use Rattle.reader_copies.specs.{cell_in, without_unused_flag}

-- a lane of a memory
abbrev pub lane_of : List (List Cell) → ℕ → List Cell
lane_of memory lane = slice_index_or memory lane []

-- a bit of a lane
abbrev pub cell_at : List (List Cell) → ℕ → ℕ → Cell
cell_at memory lane bit = cell_in (lane_of memory lane) bit

-- the memory after one access to a bit: the cell of the bit changes by the move, and all others stay
abbrev pub memory_moved : List (List Cell) → ℕ → ℕ → Move → List (List Cell)
memory_moved memory lane bit how = slice_set memory lane (slice_set (lane_of memory lane) bit (cell_after (cell_at memory lane bit) how))

-- the memory contains these lanes, and each has at least this width
pub record HasLanes (memory : List (List Cell)) (lane copies width : ℕ) : Type 0 where
  pub lanes : lane + copies ≤ length memory
  pub wide : (l : ℕ) → lane ≤ l → l < lane + copies → width ≤ length (lane_of memory l)

-- the memory with every open read of a lane dropped
abbrev pub without_reads : List (List Cell) → ℕ → List (List Cell)
without_reads memory lane = slice_set memory lane (map without_read (lane_of memory lane))

-- The memories are equal, except for flags `touched` of copies without an open read. So they behave alike.
abbrev pub AreAlikeMemories : List (List Cell) → List (List Cell) → Type 0
AreAlikeMemories memory other = map (map without_unused_flag) memory ≡ map (map without_unused_flag) other
