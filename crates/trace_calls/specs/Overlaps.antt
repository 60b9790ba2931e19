-- Reads that a write overlaps, of any trace, good or bad. Entries of processes that do not exist count for nothing.
use Rattle.std.specs.Prelude.{ℕ, zero, suc, nat_lt, Bool, true, false, ◌&&◌, ◌||◌, is_some}
use Rattle.std.specs.Option.{option_map_or}
use Rattle.std.specs.List.{list_any}
use Rattle.trace.specs.{Cell, CellAccess, CellMove, TraceEntry, TracePast, begins_read, ends_read, value_read, value_written}
use Rattle.trace.specs.declared.accesses.CellMove.TheVariants.{Write}
use Rattle.trace_engine.specs.trace_judge.trace_memory.{MadeAccess, opened, same_cell}

-- a write begins that ends later
abbrev pub opens_write : CellMove → Bool
opens_write (Write v) = true
opens_write _ = false

-- the access that q has open is a write of a cell
abbrev pub is_writing : Cell → TracePast → ℕ → Bool
is_writing c past q = option_map_or (λ m. opens_write m.access.how && same_cell m.access.cell c) (opened q past) false

-- a test holds for a number below n
abbrev pub any_below : ℕ → (ℕ → Bool) → Bool
any_below zero test = false
any_below (suc n) test = any_below n test || test n

-- one of n processes has a write of a cell open
abbrev pub is_written : ℕ → Cell → TracePast → Bool
is_written n c past = any_below n (is_writing c past)

-- an access begins a write of a cell
abbrev pub writes_on : Cell → CellAccess → Bool
writes_on c a = same_cell a.cell c && is_some (value_written a.how)

-- one of n processes begins a write of a cell with an entry
abbrev pub begins_write : ℕ → Cell → TraceEntry → Bool
begins_write n c e = nat_lt e.process n && option_map_or (writes_on c) e.access false

-- A write overlaps a read if it is open when the read begins, or begins while the read is open.
abbrev pub is_overlapped : ℕ → MadeAccess → Bool
is_overlapped n m = list_any (begins_write n m.access.cell) m.since || is_written n m.access.cell m.before

-- p's access ends a read of this cell that p has open, and that a write overlapped
abbrev pub ends_open_read : ℕ → TracePast → ℕ → Cell → Bool
ends_open_read n past p c = option_map_or (λ m. begins_read m.access.how && same_cell m.access.cell c && is_overlapped n m) (opened p past) false

-- an access of p ends a read that a write overlapped; a read in one entry begins in it
abbrev pub ends_overlapped : ℕ → TracePast → ℕ → CellAccess → Bool
ends_overlapped n past p a = elim (ends_read a.how) [
  | true ↦ ends_open_read n past p a.cell
  | false ↦ is_some (value_read a.how) && is_written n a.cell past
]

-- so does the access of an entry
abbrev pub overlaps_in : ℕ → TracePast → TraceEntry → Bool
overlaps_in n past e = option_map_or (ends_overlapped n past e.process) e.access false
