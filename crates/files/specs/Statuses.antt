-- The statuses that a program of engines ends with.
use Rattle.std.specs.Prelude.{ℕ}
use Rattle.files.specs.declared.faults.Fault.{Fault}
use Rattle.files.specs.declared.faults.Fault.TheVariants.{Line, Read, Write, Memory}
use Rattle.files.specs.declared.faults.FaultKind.{FaultKind}
use Rattle.files.specs.declared.faults.FaultKind.TheVariants as kind

-- 4 if memory ran out, 1 for any other fault of a line
abbrev pub status_of_kind : FaultKind → ℕ
status_of_kind kind.Memory = 4
status_of_kind kind.NotFirst = 1
status_of_kind kind.Unknown = 1
status_of_kind kind.Words = 1
status_of_kind kind.Number = 1
status_of_kind kind.BadName = 1
status_of_kind kind.BadValue = 1
status_of_kind kind.BadSetup = 1
status_of_kind kind.TooLong = 1

-- 4 if memory ran out, 1 for any other fault
abbrev pub status_of_fault : Fault → ℕ
status_of_fault Memory = 4
status_of_fault (Line f) = status_of_kind f.kind
status_of_fault Read = 1
status_of_fault Write = 1
