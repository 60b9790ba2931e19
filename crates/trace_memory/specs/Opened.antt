-- The latest access of a process, and the access that it has open.
use Rattle.std.specs.Prelude.{ℕ, ◌==◌, Bool, true, false, ◌&&◌, [], ◌∷◌, length, cond, option_map, Option, None, Some}
use Rattle.trace.specs.{CellAccess, CellMove, TraceEntry, TracePast, begins}
use Rattle.trace.specs.declared.accesses.CellMove.TheVariants.{Write, End, Read, Value}
use Rattle.trace_memory.specs.Cells.{same_cell}

-- an access, the entries before it, and those since
pub record MadeAccess : Type 0 where
  pub access : CellAccess
  pub before : TracePast
  pub since : TracePast

-- the access that an entry makes, if its process is p
abbrev pub access_by : ℕ → TraceEntry → Option CellAccess
access_by p e = cond (e.process == p) e.access None

-- an access, one entry later
abbrev pub one_later : TraceEntry → MadeAccess → MadeAccess
one_later e m = record m { since = e ∷ m.since }

-- p's latest access
abbrev pub latest_access : ℕ → TracePast → Option MadeAccess
latest_access p [] = None
latest_access p (e ∷ past) = elim (access_by p e) [
  | Some a ↦ Some (record { access = a; before = past; since = [] })
  | None ↦ option_map (one_later e) (latest_access p past)
]

-- an access that begins
abbrev pub if_begun : Option MadeAccess → Option MadeAccess
if_begun None = None
if_begun (Some m) = cond (begins m.access.how) (Some m) None

-- the access that p has open: its latest, if that begins
abbrev pub opened : ℕ → TracePast → Option MadeAccess
opened p past = if_begun (latest_access p past)

-- the number of its entry
abbrev pub number_of : MadeAccess → ℕ
number_of m = length m.before

-- a move ends what another began
abbrev pub ends_move : CellMove → CellMove → Bool
ends_move (Write v) End = true
ends_move Read (Value v) = true
ends_move _ _ = false

-- an access ends one that is open
abbrev pub is_end_of : Option MadeAccess → CellAccess → Bool
is_end_of None a = false
is_end_of (Some m) a = same_cell m.access.cell a.cell && ends_move m.access.how a.how
