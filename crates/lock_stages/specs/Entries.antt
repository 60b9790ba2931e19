-- Entries, as far as the stages of processes depend on them.
use Rattle.std.specs.Prelude.{ℕ, Bool, true, false, List}
use Rattle.std.specs.List.{list_any}
use Rattle.trace.specs.{LockMark}
use Rattle.trace.specs.declared.marks.LockMark.TheVariants.{Call, Wait, Enter}

-- a process, whether it makes an access, and its marks in their order; the access precedes the marks
pub record LockEntry : Type 0 where
  pub process : ℕ
  pub accesses : Bool
  pub marks : List LockMark

-- the entries before one, the newest first
abbrev pub LockPast : Type 0
LockPast = List LockEntry

-- the entry of process p with this access and these marks
abbrev pub lock_entry : ℕ → Bool → List LockMark → LockEntry
lock_entry p accesses marks = record { process = p; accesses = accesses; marks = marks }

-- the call begins
abbrev pub is_call : LockMark → Bool
is_call Call = true
is_call _ = false

-- the doorway ends
abbrev pub is_wait : LockMark → Bool
is_wait Wait = true
is_wait _ = false

-- the process enters
abbrev pub is_enter : LockMark → Bool
is_enter Enter = true
is_enter _ = false

-- an entry has such a mark
abbrev pub has_mark : (LockMark → Bool) → LockEntry → Bool
has_mark test e = list_any test e.marks
