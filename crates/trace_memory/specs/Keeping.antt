-- What is kept of the entries so far, and how that goes on.
use Rattle.std.specs.Prelude.{◌≡◌, ℕ, ◌+◌, ◌*◌, ◌<◌, Bool, true, false, ◌&&◌, IsTrue, List, [], ◌∷◌, ◌++◌, length, map, replicate, slice_get, slice_set, cond, option_map, option_to_list, Option, None, Some, is_none, is_some}
use Rattle.trace.specs.{Cell, CellAccess, CellMove, TraceMemory, TracePast, TraceRegister, TraceSetup, begins, is_trace_setup, value_written}
use Rattle.trace.specs.declared.accesses.CellMove.TheVariants.{End, Read, Value}
use Rattle.trace_memory.specs.declared.allowed.Allowed.{Allowed}
use Rattle.trace_memory.specs.declared.cells.CellState.{CellState}
use Rattle.trace_memory.specs.declared.kept.OpenAccess.{OpenAccess}
use Rattle.trace_memory.specs.AllowedValues.{allowed_by, allowed_of, overlapped}
use Rattle.trace_memory.specs.Cells.{cell_state, has_cell, moves_on, register_of, same_cell, state_after}
use Rattle.trace_memory.specs.Opened.{MadeAccess, number_of, opened}
use Rattle.trace_memory.specs.Reads.{read_since}

-- what the read of an open access may give, if it reads
abbrev pub allowed_in : TraceSetup → MadeAccess → Option Allowed
allowed_in s m = elim m.access.how [
  | Read ↦ Some (allowed_by s.memory (register_of s m.access.cell) (read_since m.access.cell m))
  | _ ↦ None
]

-- an open access, as it is kept
abbrev pub kept_access : TraceSetup → MadeAccess → OpenAccess
kept_access s m = record { entry = number_of m; cell = m.access.cell; allowed = allowed_in s m }

-- the access that p has open, as it is kept
abbrev pub kept_open : TraceSetup → ℕ → TracePast → Option OpenAccess
kept_open s p past = option_map (kept_access s) (opened p past)

-- where the state of a cell is kept: sixteen places for each register
abbrev pub place_in : Option ℕ → ℕ
place_in None = 0
place_in (Some i) = i

abbrev pub place_of : Cell → ℕ
place_of c = 16 * c.register + place_in c.index

-- the state of a cell
abbrev pub cell_after : TraceSetup → Cell → TracePast → CellState
cell_after s c past = cell_state (register_of s c) (moves_on c past)

-- the setup, the states of cells, and the open access of each of sixteen processes
pub record MemoryState : Type 0 where
  pub setup : TraceSetup
  pub cells : List CellState
  pub opened : List (Option OpenAccess)

-- the setup is in range, and each cell and process has its place
pub record IsMemory (k : MemoryState) : Type 0 where
  pub good : is_trace_setup k.setup ≡ true
  pub cells : length k.cells ≡ 16 * length k.setup.registers
  pub opened : length k.opened ≡ 16

-- this is what is to be kept of a past
pub record HasMade (k : MemoryState) (past : TracePast) : Type 0 where
  pub cells : (c : Cell) → IsTrue (has_cell k.setup c) → slice_get k.cells (place_of c) ≡ Some (cell_after k.setup c past)
  pub opened : (p : ℕ) → p < 16 → slice_get k.opened p ≡ Some (kept_open k.setup p past)

-- this holds of each past that has been made
abbrev pub OfMade : MemoryState → (TracePast → Type 0) → Type 0
OfMade k P = (past : TracePast) → HasMade k past → P past

-- what of a read that is open, after an access
abbrev pub allowed_after : TraceMemory → Option ℕ → Option Allowed → Option Allowed
allowed_after memory (Some v) (Some k) = Some (overlapped memory v k)
allowed_after memory _ k = k

-- an open access, after an access that may overlap it
abbrev pub seen : TraceMemory → CellAccess → OpenAccess → OpenAccess
seen memory a k = record k { allowed = cond (same_cell a.cell k.cell) (allowed_after memory (value_written a.how) k.allowed) k.allowed }

-- what the read may give that begins with a move, if one does
abbrev pub allowed_first : TraceMemory → CellState → CellMove → Option Allowed
allowed_first memory cell Read = Some (allowed_of memory cell.stored (option_to_list cell.writing))
allowed_first memory cell _ = None

-- the access that is open after entry n, whose cell was in this state
abbrev pub opened_by : TraceMemory → ℕ → CellState → CellAccess → Option OpenAccess
opened_by memory n cell a = cond (begins a.how) (Some (record { entry = n; cell = a.cell; allowed = allowed_first memory cell a.how })) None

-- an access ends one that is kept as open
abbrev pub ends_kept : Option OpenAccess → CellAccess → Bool
ends_kept None a = false
ends_kept (Some k) a = same_cell k.cell a.cell && elim a.how [ End ↦ is_none k.allowed | Value v ↦ is_some k.allowed | _ ↦ false ]

-- a cell of a register that nothing was written to
abbrev pub first_state : TraceRegister → CellState
first_state r = record { stored = r.opens; writing = None }

-- the states of all cells before the first entry
abbrev pub opening_cells : List TraceRegister → List CellState
opening_cells [] = []
opening_cells (r ∷ registers) = replicate 16 (first_state r) ++ opening_cells registers

-- the state after an access of p with entry n, which was made when its cell was in this state
abbrev pub state_with : MemoryState → ℕ → ℕ → CellState → CellAccess → MemoryState
state_with k p n cell a = record {
  setup = k.setup;
  cells = slice_set k.cells (place_of a.cell) (state_after (register_of k.setup a.cell).width cell a.how);
  opened = slice_set (map (option_map (seen k.setup.memory a)) k.opened) p (opened_by k.setup.memory n cell a);
}

-- what a read may give that is kept as open, if a move ends a read
abbrev pub allowed_open : CellMove → Option OpenAccess → Option Allowed
allowed_open (Value v) (Some k) = k.allowed
allowed_open _ _ = None
