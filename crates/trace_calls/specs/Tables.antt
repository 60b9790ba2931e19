-- The table of a trace's calls as the engine writes it.
use Rattle.std.specs.Prelude.{◌≡◌, ◌<◌, ℕ, List, ◌++◌, length, reverse, IfSome, Option, Result, Ok, Err}
use Rattle.std.specs.Io.KnownBytes.{Appends, IsAtEnd, Keeps}
use Rattle.calls.specs.{header}
use Rattle.files.specs.Engines.{Streams}
use Rattle.files.specs.{Fault, UnlessMemory, WritesFront}
use Rattle.files.specs.declared.faults.Fault.TheVariants as fault
use Rattle.trace.specs.{TraceEntry, TraceSetup}
use Rattle.trace_file.specs.TraceFiles.{trace_said}
use Rattle.trace_engine.specs.{IsOfTrace}
use Rattle.trace_calls.specs.Keeping.{CallsState, HasListed}
use Rattle.trace_calls.specs.Lines.{ended_lines, table_of}

-- a table of calls, and the lines that are printed so far
pub record ListerState : Type 0 where
  pub table : CallsState
  pub lines : List ℕ

-- the number of entries that were listed
abbrev pub listed_in : ListerState → ℕ
listed_in l = l.table.entries

-- It has listed these entries of a trace with this setup, and printed the calls that have ended. The numbers of the entries' lines do not matter.
pub record HasTabled (l : ListerState) (s : TraceSetup) (entries : List TraceEntry) (numbers : List ℕ) : Type 0 where
  pub processes : l.table.opened.processes ≡ s.processes
  pub listed : HasListed l.table (reverse entries)
  pub count : l.table.entries ≡ length entries
  pub lines : l.lines ≡ header ++ ended_lines s.processes (reverse entries)

-- a text is the table of a trace
abbrev pub IsTableOf : List ℕ → TraceSetup → List TraceEntry → List ℕ → Type 0
IsTableOf text s entries numbers = text ≡ table_of s.processes (reverse entries)

-- the table of the trace that a text means was written
pub record WritesTable (text : List ℕ) (old new : Option (List ℕ)) : Type 0 where
  pub table : List ℕ
  pub is : IsOfTrace (IsTableOf table) text
  pub written : Appends old new table

-- a front of it was written
pub record WritesTableFront (text : List ℕ) (old new : Option (List ℕ)) : Type 0 where
  pub table : List ℕ
  pub is : IsOfTrace (IsTableOf table) text
  pub front : WritesFront old new table

-- How listing ends: with the table of the trace that the whole input says and the status 0, or with its fault. Each fault has its cause, and nothing was written unless the table is known.
abbrev pub TraceCallsEnd : Result ℕ Fault → Streams → Streams → Type 0
TraceCallsEnd (Ok status) old new = (status ≡ 0) × IfSome old.to_come (λ text. WritesTable text old.taken new.taken) × IsAtEnd new.to_come
TraceCallsEnd (Err (fault.Line f)) old new = IfSome old.to_come (λ text. UnlessMemory f.kind (trace_said text ≡ Err f)) × Keeps old.taken new.taken
TraceCallsEnd (Err fault.Read) old new = (old.read_failures < new.read_failures) × Keeps old.taken new.taken
TraceCallsEnd (Err fault.Write) old new = (old.write_failures < new.write_failures) × IfSome old.to_come (λ text. WritesTableFront text old.taken new.taken)
TraceCallsEnd (Err fault.Memory) old new = Keeps old.taken new.taken
