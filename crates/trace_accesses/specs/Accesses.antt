-- What a picture shows of the accesses of a trace, good or bad, by look-backs over a past, whose newest entry comes first.
use Rattle.std.specs.Prelude.{ℕ, zero, suc, ◌==◌, nat_lt, Bool, true, false, not, ◌&&◌, ◌||◌, List, [], ◌∷◌, ◌++◌, cond, length, map, option_map, replicate, Option, None, Some, is_some, option_and_then}
use Rattle.std.specs.Fmt.{decimal}
use Rattle.std.specs.Option.{option_map_or}
use Rattle.picture_layout.specs.{GivenAccess, GivenChange}
use Rattle.trace.specs.{CellAccess, CellMove, TraceEntry, TracePast, TraceRegister, TraceSetup, alters, cell_text, ends, writes}
use Rattle.trace_memory.specs.{CellState, MadeAccess, cell_after, has_cell, number_of, opened, same_cell}
use Rattle.picture_layout.specs.declared.limits.WaveCount.{WaveCount}
use Rattle.picture_layout.specs.declared.limits.WaveCount.TheVariants.{Sixteen, All}
use Rattle.picture_layout.specs.declared.limits.WaveLimit.{WaveLimit}
use Rattle.trace_accesses.specs.declared.monitored.RowChange.{RowChange}
use Rattle.trace_accesses.specs.declared.monitored.MonitoredAccess.{MonitoredAccess}
use Rattle.trace_accesses.specs.Moves.{kind_of, step_of}
use Rattle.trace_accesses.specs.Rows.{row_in, waves_since}
use Rattle.trace_accesses.specs.Words.{words_of}

-- Which accesses are shown.

-- the process p and the cell of an access exist
abbrev pub is_possible : TraceSetup → ℕ → CellAccess → Bool
is_possible s p a = nat_lt p s.processes && has_cell s a.cell

-- an access of p, if it is possible
abbrev pub possible_access : TraceSetup → ℕ → Option CellAccess → Option CellAccess
possible_access s p None = None
possible_access s p (Some a) = cond (is_possible s p a) (Some a) None

-- an entry, without its access if that is not possible
abbrev pub possible : TraceSetup → TraceEntry → TraceEntry
possible s e = record e { access = possible_access s e.process e.access }

abbrev pub possible_past : TraceSetup → TracePast → TracePast
possible_past s past = map (possible s) past

-- What is shown of an access of p, in numbers. All accesses of the past are possible.

-- the number of the entry with which an access began that may end with this move: that of the access that p has open, or of this entry
abbrev pub begin_of : TracePast → ℕ → CellMove → ℕ
begin_of past p how = cond (ends how) (option_map_or number_of (opened p past) (length past)) (length past)

-- an access and one that is open are of one cell, and one of the two writes
abbrev pub overlaps_open : CellAccess → MadeAccess → Bool
overlaps_open a m = same_cell m.access.cell a.cell && (writes a.how || writes m.access.how)

-- an access of p overlaps the one that q has open, where q is another process
abbrev pub overlaps_with : TracePast → ℕ → CellAccess → ℕ → Bool
overlaps_with past p a q = not (q == p) && option_map_or (overlaps_open a) (opened q past) false

-- which of the first processes have an access open that p's overlaps, for this number of processes
abbrev pub first_overlaps : TracePast → ℕ → CellAccess → ℕ → List Bool
first_overlaps past p a zero = []
first_overlaps past p a (suc q) = first_overlaps past p a q ++ overlaps_with past p a q ∷ []

-- which of sixteen processes; none if p's access ends
abbrev pub overlaps_of : TracePast → ℕ → CellAccess → List Bool
overlaps_of past p a = cond (ends a.how) (replicate 16 false) (first_overlaps past p a 16)

-- a row is shown
abbrev pub is_within : WaveCount → ℕ → Bool
is_within Sixteen row = nat_lt row 16
is_within All row = true

-- the change of a wave in this row by a move, whose cell was in the first state and then in the second
abbrev pub change_in_row : WaveCount → CellState → CellState → ℕ → Option RowChange
change_in_row count before after row = cond (is_within count row)
    (Some (record { row = row; old = before.stored; value = after.stored; was_open = is_some before.writing; is_open = is_some after.writing })) None

-- the change of a wave by a move, whose cell may have a row
abbrev pub change_of : WaveCount → Option ℕ → CellMove → CellState → CellState → Option RowChange
change_of count row how before after = cond (alters how) (option_and_then (change_in_row count before after) row) None

-- the access of an entry
abbrev pub monitored_by : TraceSetup → WaveLimit → TracePast → TraceEntry → CellAccess → MonitoredAccess
monitored_by s limit past e a = record {
  event = length past;
  process = e.process;
  access = a;
  begin = begin_of past e.process a.how;
  stored = (cell_after s a.cell past).stored;
  overlaps = overlaps_of past e.process a;
  change = change_of limit.count (row_in (waves_since limit.from (e ∷ past)) a.cell) a.how (cell_after s a.cell past) (cell_after s a.cell (e ∷ past));
}

abbrev pub monitored_access : TraceSetup → WaveLimit → TracePast → TraceEntry → Option MonitoredAccess
monitored_access s limit past e = option_map (monitored_by s limit past e) e.access

-- What is shown, in words.

-- the change of the wave of a cell
abbrev pub shown_change : List ℕ → RowChange → GivenChange
shown_change cell c = record { row = c.row; name = cell; old = decimal c.old; value = decimal c.value; was_open = c.was_open; is_open = c.is_open }

-- an access
abbrev pub shown_as : List TraceRegister → MonitoredAccess → GivenAccess
shown_as registers w = record {
  event = w.event;
  process = w.process;
  kind = kind_of w.access.how;
  step = step_of w.access.how;
  begin = w.begin;
  words = words_of w.stored w.access.how;
  cell = cell_text registers w.access.cell;
  overlaps = w.overlaps;
  change = option_map (shown_change (cell_text registers w.access.cell)) w.change;
}

-- What a picture shows of the access of an entry, where these entries came before it. An access that is not possible is not shown, and
-- counts for nothing later.
abbrev pub shown_access : TraceSetup → WaveLimit → TracePast → TraceEntry → Option GivenAccess
shown_access s limit past e = option_map (shown_as s.registers) (monitored_access s limit (possible_past s past) (possible s e))
