-- The order of the faults of a line.
use Rattle.std.specs.Prelude.{ℕ, nat_le, if◌then◌else◌, Result, Ok, Err}
use Rattle.files.specs.{FaultKind}
use Rattle.files.specs.declared.faults.FaultKind.TheVariants.{NotFirst, Unknown, Words, Number, BadName, BadValue, BadSetup, TooLong, Memory}

-- the position of a fault in the order in which the faults of a line are reported: the lowest is reported
abbrev pub rank : FaultKind → ℕ
rank TooLong = 0
rank Unknown = 1
rank NotFirst = 2
rank Words = 3
rank Number = 4
rank BadName = 5
rank BadValue = 6
rank BadSetup = 7
rank Memory = 8

-- the fault that is reported, of the faults of two parts
abbrev pub reported_of : FaultKind → FaultKind → FaultKind
reported_of one other = if nat_le (rank one) (rank other) then one else other

-- the values of two parts of a line, or the fault that is reported
abbrev pub both : {A B : Type 0} → Result A FaultKind → Result B FaultKind → Result (A × B) FaultKind
both (Ok a) (Ok b) = Ok (a, b)
both (Ok a) (Err fault) = Err fault
both (Err fault) (Ok b) = Err fault
both (Err one) (Err other) = Err (reported_of one other)
