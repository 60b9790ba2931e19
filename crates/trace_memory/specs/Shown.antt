-- How refusals of accesses are printed.
use Rattle.std.specs.Prelude.{ℕ, List, codes}
use Rattle.trace_memory.specs.declared.refusals.CellRefusal.{CellRefusal}
use Rattle.trace_memory.specs.declared.refusals.CellRefusal.TheVariants as refusal

-- why an access is refused
abbrev pub cell_refusal_text : CellRefusal → List ℕ
cell_refusal_text refusal.NoProcess = codes "no-process"
cell_refusal_text refusal.NoCell = codes "no-cell"
cell_refusal_text refusal.NotOwner = codes "not-owner"
cell_refusal_text refusal.NotShared = codes "not-shared"
cell_refusal_text refusal.TooWide = codes "too-wide"
cell_refusal_text refusal.NotWhole = codes "not-whole"
cell_refusal_text refusal.NotRunning = codes "not-running"
cell_refusal_text refusal.NotOpen = codes "not-open"
cell_refusal_text refusal.AccessOpen = codes "access-open"
