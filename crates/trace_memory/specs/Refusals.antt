-- What an access is refused for: the first row of a table that applies.
use Rattle.std.specs.Prelude.{ℕ, ◌==◌, nat_lt, Bool, true, not, ◌&&◌, List, [], ◌∷◌, ◌++◌, Option, None, Some, is_some}
use Rattle.trace.specs.{CellAccess, TracePast, TraceSetup, changes, ends, first_that, fits, is_atomic, is_part, only_writes}
use Rattle.trace_memory.specs.declared.refusals.CellRefusal.{CellRefusal}
use Rattle.trace_memory.specs.declared.refusals.CellRefusal.TheVariants as refusal
use Rattle.trace_memory.specs.Cells.{has_cell, register_of}
use Rattle.trace_memory.specs.Opened.{MadeAccess, is_end_of, opened}

-- p may write a cell: it is p's, or shared
abbrev pub is_own : ℕ → Option ℕ → Bool
is_own p None = true
is_own p (Some i) = i == p

-- the table for an access of p, by the setup
abbrev pub setup_refusals : TraceSetup → ℕ → CellAccess → List (Bool × CellRefusal)
setup_refusals s p a =
    (not (nat_lt p s.processes), refusal.NoProcess)
    ∷ (not (has_cell s a.cell), refusal.NoCell)
    ∷ (only_writes a.how && not (is_own p a.cell.index), refusal.NotOwner)
    ∷ (changes a.how && is_some a.cell.index, refusal.NotShared)
    ∷ (not (fits (register_of s a.cell).width a.how), refusal.TooWide)
    ∷ (is_atomic s.memory && is_part a.how, refusal.NotWhole)
    ∷ []

-- the table by its process, which is idle or not, and has an access open or not
abbrev pub open_refusals : Bool → Option MadeAccess → CellAccess → List (Bool × CellRefusal)
open_refusals idle open_access a =
    (idle, refusal.NotRunning)
    ∷ (ends a.how && not (is_end_of open_access a), refusal.NotOpen)
    ∷ (not (ends a.how) && is_some open_access, refusal.AccessOpen)
    ∷ []

-- the refusal of an access of p
abbrev pub cell_refusal : TraceSetup → TracePast → ℕ → Bool → CellAccess → Option CellRefusal
cell_refusal s past p idle a = first_that (setup_refusals s p a ++ open_refusals idle (opened p past) a)
