-- A cell after the moves made on it.
use Rattle.std.specs.Prelude.{ℕ, ◌==◌, ◌+◌, ◌%◌, ◌^◌, nat_lt, Bool, true, false, not, ◌&&◌, List, [], ◌∷◌, slice_get, slice_index_or, cond, unwrap_or, Option, None, Some}
use Rattle.trace.specs.{Cell, CellAccess, CellMove, TracePast, TraceRegister, TraceSetup}
use Rattle.trace.specs.declared.accesses.CellMove.TheVariants.{Write, End, Read, Value, Set, Get, Swap, Add, Cas}
use Rattle.trace_memory.specs.declared.cells.CellState.{CellState}

-- two indexes of a register are the same
abbrev pub same_index : Option ℕ → Option ℕ → Bool
same_index None None = true
same_index (Some i) (Some j) = i == j
same_index _ _ = false

-- two cells are the same
abbrev pub same_cell : Cell → Cell → Bool
same_cell c d = (c.register == d.register) && same_index c.index d.index

-- the register of a cell that exists
abbrev pub register_of : TraceSetup → Cell → TraceRegister
register_of s c = slice_index_or s.registers c.register (record { name = []; width = 0; opens = 0; is_shared = false })

-- an index names a cell of a register: that of a process, or the one that is shared
abbrev pub names_cell : TraceSetup → TraceRegister → Option ℕ → Bool
names_cell s r None = r.is_shared
names_cell s r (Some i) = not r.is_shared && nat_lt i s.processes

-- the cell exists
abbrev pub has_cell : TraceSetup → Cell → Bool
has_cell s c = elim (slice_get s.registers c.register) [ None ↦ false | Some r ↦ names_cell s r c.index ]

-- the move that an access makes on a cell, if it makes one
abbrev pub move_on : Cell → Option CellAccess → Option CellMove
move_on c None = None
move_on c (Some a) = cond (same_cell a.cell c) (Some a.how) None

-- one move more, if there is one
abbrev pub with_move : Option CellMove → List CellMove → List CellMove
with_move None moves = moves
with_move (Some m) moves = m ∷ moves

-- the moves that entries make on a cell, the newest first
abbrev pub moves_on : Cell → TracePast → List CellMove
moves_on c [] = []
moves_on c (e ∷ past) = with_move (move_on c e.access) (moves_on c past)

-- the value of the write that is open after these moves
abbrev pub open_write : List CellMove → Option ℕ
open_write [] = None
open_write (Write v ∷ moves) = Some v
open_write (End ∷ moves) = None
open_write (Set v ∷ moves) = None
open_write (_ ∷ moves) = open_write moves

-- the value that is stored after these moves: what the last finished write left, or the opening value
abbrev pub stored : TraceRegister → List CellMove → ℕ
stored r [] = r.opens
stored r (End ∷ moves) = unwrap_or (open_write moves) (stored r moves)
stored r (Set v ∷ moves) = v
stored r (Swap new gives ∷ moves) = new
stored r (Add addend gives ∷ moves) = (gives + addend) % 2 ^ r.width
stored r (Cas expected new gives ∷ moves) = cond (gives == expected) new (stored r moves)
stored r (_ ∷ moves) = stored r moves

-- both
abbrev pub cell_state : TraceRegister → List CellMove → CellState
cell_state r moves = record { stored = stored r moves; writing = open_write moves }

-- a cell of this width after one move more
abbrev pub state_after : ℕ → CellState → CellMove → CellState
state_after width k (Write v) = record k { writing = Some v }
state_after width k End = record { stored = unwrap_or k.writing k.stored; writing = None }
state_after width k Read = k
state_after width k (Value v) = k
state_after width k (Set v) = record { stored = v; writing = None }
state_after width k (Get v) = k
state_after width k (Swap new gives) = record k { stored = new }
state_after width k (Add addend gives) = record k { stored = (gives + addend) % 2 ^ width }
state_after width k (Cas expected new gives) = record k { stored = cond (gives == expected) new k.stored }
