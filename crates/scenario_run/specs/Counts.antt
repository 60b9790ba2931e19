-- A lower bound on how many of each process's next Steps are within a register access.
use Rattle.std.specs.Prelude.{ℕ, suc, ◌≡◌, ◌<◌, ◌≤◌, List, length, slice_index}
use Rattle.world.specs.{Seat, remaining_in}

-- each of 256 processes has a positive number, at most 1 more than the number of its next Steps within a register access
pub record IsCounted (within : List ℕ) (seats : List Seat) : Type 0 where
  pub all : length within ≡ 256
  pub some : (p : ℕ) → p < 256 → 0 < slice_index within p
  pub known : (p : ℕ) → p < 256 → slice_index within p ≤ suc (remaining_in seats p)
