-- How accesses, marks and entries are printed.
use Rattle.std.specs.Prelude.{ℕ, List, [], ◌∷◌, ◌++◌, codes, slice_get, Option, None, Some}
use Rattle.std.specs.Fmt.{decimal}
use Rattle.trace.specs.declared.accesses.Cell.{Cell}
use Rattle.trace.specs.declared.accesses.CellAccess.{CellAccess}
use Rattle.trace.specs.declared.accesses.CellMove.{CellMove}
use Rattle.trace.specs.declared.accesses.CellMove.TheVariants.{Write, End, Read, Value, Set, Get, Swap, Add, Cas}
use Rattle.trace.specs.declared.marks.LockMark.{LockMark}
use Rattle.trace.specs.declared.marks.LockMark.TheVariants as mark
use Rattle.trace.specs.declared.setups.TraceRegister.{TraceRegister}
use Rattle.trace.specs.Entries.{TraceEntry}

-- a mark
abbrev pub lock_mark_text : LockMark → List ℕ
lock_mark_text mark.Call = codes "call"
lock_mark_text mark.Wait = codes "wait"
lock_mark_text mark.Enter = codes "enter"
lock_mark_text mark.Leave = codes "leave"
lock_mark_text mark.Answer = codes "answer"

-- a move
abbrev pub move_text : CellMove → List ℕ
move_text (Write v) = codes "write " ++ decimal v
move_text End = codes "end"
move_text Read = codes "read"
move_text (Value v) = codes "value " ++ decimal v
move_text (Set v) = codes "set " ++ decimal v
move_text (Get v) = codes "get " ++ decimal v
move_text (Swap new gives) = codes "swap " ++ decimal new ++ codes " gives " ++ decimal gives
move_text (Add addend gives) = codes "add " ++ decimal addend ++ codes " gives " ++ decimal gives
move_text (Cas expected new gives) = codes "cas " ++ decimal expected ++ codes " " ++ decimal new ++ codes " gives " ++ decimal gives

-- the name of a register
abbrev pub register_name : List TraceRegister → ℕ → List ℕ
register_name registers i = elim (slice_get registers i) [ None ↦ [] | Some r ↦ r.name ]

-- a cell: the name of its register, and then its index, if it has one
abbrev pub cell_text : List TraceRegister → Cell → List ℕ
cell_text registers c = elim c.index [
  | None ↦ register_name registers c.register
  | Some i ↦ register_name registers c.register ++ (codes "[" ++ (decimal i ++ codes "]"))
]

-- an access
abbrev pub access_text : List TraceRegister → CellAccess → List ℕ
access_text registers a = codes " " ++ (cell_text registers a.cell ++ (codes " " ++ move_text a.how))

abbrev pub access_if : List TraceRegister → Option CellAccess → List ℕ
access_if registers None = []
access_if registers (Some a) = access_text registers a

-- marks, each after its sign
abbrev pub marks_text : List LockMark → List ℕ
marks_text [] = []
marks_text (m ∷ marks) = (codes " : " ++ lock_mark_text m) ++ marks_text marks

-- an entry, on a line
abbrev pub trace_entry_line : List TraceRegister → TraceEntry → List ℕ
trace_entry_line registers e = decimal e.process ++ (access_if registers e.access ++ (marks_text e.marks ++ codes "\n"))
