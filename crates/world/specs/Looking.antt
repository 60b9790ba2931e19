-- Facts that are read from a core.
use Rattle.std.specs.Prelude.{◌≡◌, ◌<◌, ℕ, Bool, List, [], ◌∷◌, Option, Some, length, map}
use Rattle.std.specs.List.{range_with_len}
use Rattle.plain_store.specs.{Setup}
use Rattle.model.specs.safe_bit.Cell.{Cell}
use Rattle.model.specs.{Access, Entry, Event, Past, Taken, copy, entry_of, past_of, width}
use Rattle.model.specs.declared.events.Event.TheVariants.{Step}
use Rattle.laws.specs.{cell_held}
use Rattle.process.specs.registers.{BitCopy, RegisterName, copy_bytes}
use Rattle.process.specs.{remaining_at, process_after}
use Rattle.world.specs.Cores.{CoreState, with_history}
use Rattle.world.specs.Shows.{Shows}

-- With each history of `taken` commands, a step of p by this flick adds this entry, or none where it is refused.
abbrev pub IsStepEntry : CoreState → ℕ → Bool → ℕ → Option Entry → Type 0
IsStepEntry c p flick taken entry = (history : List Taken) (events : List Event) → length history ≡ taken → Shows (with_history c history) events →
    entry ≡ entry_of c.setup (past_of c.setup events) (Step p flick)

-- If p added the newest entry within a register access of its call, without a mark, this is the access of that entry.
abbrev pub IsNewestAccess : ℕ → Option Access → Setup → Past → Type 0
IsNewestAccess p last s past = (a : Access) (before : Past) → past ≡ record { process = p; access = Some a; marks = [] } ∷ before → 0 < remaining_at (process_after s before p) → last ≡ Some a

-- The cells that the registers hold of a reader's copies of a register.
abbrev pub cells_held : Setup → Past → RegisterName → ℕ → List Cell
cells_held s past register reader = map (λ k. cell_held s past (copy register.owner register.field reader k)) (range_with_len 0 (width s register.field))

-- The bytes that these copies make, or none while a write of one of them is open.
abbrev pub bytes_held : Setup → Past → RegisterName → ℕ → Option (List ℕ)
bytes_held s past register reader = copy_bytes (cells_held s past register reader)

-- The cell that the registers hold of a copy of a bit.
abbrev pub copy_held : Setup → Past → BitCopy → Cell
copy_held s past c = cell_held s past (copy c.register.owner c.register.field c.reader c.bit)
