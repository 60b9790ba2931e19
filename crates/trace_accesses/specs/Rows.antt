-- The cells that were written, and the rows of waves: the cells that entries from one number on give a wave.
use Rattle.std.specs.Prelude.{ℕ, ◌+◌, nat_le, Bool, ◌&&◌, ◌||◌, List, [], ◌∷◌, ◌++◌, cond, length, option_map, Option, None, Some, is_some}
use Rattle.trace.specs.{Cell, CellAccess, CellMove, TracePast, alters, writes}
use Rattle.trace_memory.specs.{moves_on, open_write, same_cell}

-- the next row
abbrev pub row_below : ℕ → ℕ
row_below row = row + 1

-- the row of a cell among these
abbrev pub row_in : List Cell → Cell → Option ℕ
row_in [] c = None
row_in (d ∷ rows) c = cond (same_cell d c) (Some 0) (option_map row_below (row_in rows c))

-- rows, and behind them a cell that may be among them already
abbrev pub with_last : Option ℕ → Cell → List Cell → List Cell
with_last (Some row) c rows = rows
with_last None c rows = rows ++ c ∷ []

abbrev pub rows_with : Cell → List Cell → List Cell
rows_with c rows = with_last (row_in rows c) c rows

-- rows after an access, if there is one
abbrev pub rows_after : Option CellAccess → List Cell → List Cell
rows_after None rows = rows
rows_after (Some a) rows = cond (writes a.how) (rows_with a.cell rows) rows

-- the cells that were written in a past, in the order of their first writes
abbrev pub written_rows : TracePast → List Cell
written_rows [] = []
written_rows (e ∷ past) = rows_after e.access (written_rows past)

-- the move of an entry with this number counts from a number on: it begins a write, or ends the write of its cell that is open, if one is
abbrev pub counts_from : ℕ → ℕ → CellMove → Option ℕ → Bool
counts_from from number how open_one = nat_le from number && (writes how || (alters how && is_some open_one))

-- rows of waves, with one for a cell, if the access to it counts
abbrev pub waves_with : Bool → Cell → List Cell → List Cell
waves_with counts c waves = cond counts (rows_with c waves) waves

-- rows of waves after an access, if there is one, where these entries came before it
abbrev pub waves_after : ℕ → TracePast → Option CellAccess → List Cell → List Cell
waves_after from past None waves = waves
waves_after from past (Some a) waves = waves_with (counts_from from (length past) a.how (open_write (moves_on a.cell past))) a.cell waves

-- the rows of waves from an entry on: the cells of which an entry from this number on begins a write, or ends one that is open, in the
-- order of those entries
abbrev pub waves_since : ℕ → TracePast → List Cell
waves_since from [] = []
waves_since from (e ∷ past) = waves_after from past e.access (waves_since from past)
