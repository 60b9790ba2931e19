-- What a read may give, in three memories.
use Rattle.std.specs.Prelude.{ℕ, ◌==◌, ◌^◌, Bool, false, not, ◌||◌, List, [], ◌∷◌, ◌++◌, option_to_list, length, filter, None, Some}
use Rattle.std.specs.List.{list_any, range_with_len}
use Rattle.trace.specs.{Cell, CellAccess, CellMove, TraceMemory, TracePast, TraceRegister, TraceSetup, value_read, value_written}
use Rattle.trace.specs.declared.accesses.CellMove.TheVariants.{Value}
use Rattle.trace.specs.declared.setups.TraceMemory.TheVariants.{Safe, Regular, Atomic}
use Rattle.trace_memory.specs.Cells.{moves_on, open_write, register_of, stored}
use Rattle.trace_memory.specs.Opened.{MadeAccess, opened}

-- a read: the moves of its cell before it began, and since
pub record CellRead : Type 0 where
  pub before : List CellMove
  pub since : List CellMove

-- the values of the writes that begin with these moves
abbrev pub values_written : List CellMove → List ℕ
values_written [] = []
values_written (m ∷ moves) = option_to_list (value_written m) ++ values_written moves

-- the values of the writes that overlap a read: one that is open as it begins, and those that begin while it is open
abbrev pub overlapping : CellRead → List ℕ
overlapping r = values_written r.since ++ option_to_list (open_write r.before)

-- a value is among these
abbrev pub is_among : List ℕ → ℕ → Bool
is_among values v = list_any (λ x. x == v) values

-- no write overlaps a read
abbrev pub is_undisturbed : CellRead → Bool
is_undisturbed r = length (overlapping r) == 0

-- A read may give the value that was stored when it began. If a write overlaps it, it may also give any value in safe memory, and that of the write in regular memory.
abbrev pub may_give : TraceMemory → TraceRegister → CellRead → ℕ → Bool
may_give Safe reg r v = not (is_undisturbed r) || (stored reg r.before == v)
may_give Regular reg r v = is_among (overlapping r) v || (stored reg r.before == v)
may_give Atomic reg r v = stored reg r.before == v

-- a read of a cell that begins in the next entry
abbrev pub whole_read : Cell → TracePast → CellRead
whole_read c past = record { before = moves_on c past; since = [] }

-- a read of a cell that began with an earlier access
abbrev pub read_since : Cell → MadeAccess → CellRead
read_since c m = record { before = moves_on c m.before; since = moves_on c m.since }

-- the read that an access of p ends, or makes in one entry
abbrev pub read_ended : TracePast → ℕ → CellAccess → CellRead
read_ended past p a = elim a.how [
  | Value v ↦ elim (opened p past) [ Some m ↦ read_since a.cell m | None ↦ whole_read a.cell past ]
  | _ ↦ whole_read a.cell past
]

-- an access of p reads a value that it may not give
abbrev pub reads_wrongly : TraceSetup → TracePast → ℕ → CellAccess → Bool
reads_wrongly s past p a = elim (value_read a.how) [
  | None ↦ false
  | Some v ↦ not (may_give s.memory (register_of s a.cell) (read_ended past p a) v)
]

-- the values that a read may give, ascending, where memory does not allow any value
abbrev pub allowed_values : TraceMemory → TraceRegister → CellRead → List ℕ
allowed_values Safe reg r = stored reg r.before ∷ []
allowed_values Regular reg r = filter (may_give Regular reg r) (range_with_len 0 (2 ^ reg.width))
allowed_values Atomic reg r = stored reg r.before ∷ []
