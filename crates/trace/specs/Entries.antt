-- Entries of a trace, and a past: the entries before one, the newest first.
use Rattle.std.specs.Prelude.{ℕ, List, Option}
use Rattle.trace.specs.declared.accesses.CellAccess.{CellAccess}
use Rattle.trace.specs.declared.marks.LockMark.{LockMark}

-- who did what: a process, at most one access, and the marks in their order
pub record TraceEntry : Type 0 where
  pub process : ℕ
  pub access : Option CellAccess
  pub marks : List LockMark

-- the entries before one, the newest first
abbrev pub TracePast : Type 0
TracePast = List TraceEntry

-- the entry of process p with this access and these marks
abbrev pub trace_entry : ℕ → Option CellAccess → List LockMark → TraceEntry
trace_entry p access marks = record { process = p; access = access; marks = marks }
