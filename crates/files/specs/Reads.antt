-- The result of a call that reads, compared with that of the grammar.
use Rattle.std.specs.Prelude.{◌≡◌, Result, Ok, Err}
use Rattle.files.specs.declared.faults.FaultKind.{FaultKind}
use Rattle.files.specs.declared.faults.FaultKind.TheVariants.{Memory}
use Rattle.files.specs.declared.faults.LineFault.{LineFault}

-- a fact that is known unless memory ran out
abbrev pub UnlessMemory : FaultKind → Type 0 → Type 0
UnlessMemory Memory P = Unit {0}
UnlessMemory kind P = P

-- the value that was made is that of the grammar, and the fault is that of the grammar too, unless memory ran out
abbrev pub Makes : {A : Type 0} → Result A FaultKind → Result A FaultKind → Type 0
Makes (Ok made) said = said ≡ Ok made
Makes (Err kind) said = UnlessMemory kind (said ≡ Err kind)

-- a call changes a value to that of the grammar, or returns the grammar's fault, unless memory ran out
abbrev pub Takes : {A : Type 0} → Result (Unit {0}) FaultKind → Result A FaultKind → A → Type 0
Takes (Ok done) said new = said ≡ Ok new
Takes (Err kind) said new = UnlessMemory kind (said ≡ Err kind)

-- the value of a whole file is that of the grammar, and the fault is that of the grammar too, unless memory ran out
abbrev pub MakesFile : {A : Type 0} → Result A LineFault → Result A LineFault → Type 0
MakesFile (Ok made) said = said ≡ Ok made
MakesFile (Err fault) said = UnlessMemory fault.kind (said ≡ Err fault)
