-- How an engine ends that reads a record file and writes a report on its record.
use Rattle.std.specs.Prelude.{◌≡◌, ◌<◌, ℕ, List, Option, IfSome, Result, Ok, Err}
use Rattle.std.specs.Io.KnownBytes.{Appends, IsAtEnd, Keeps}
use Rattle.plain_store.specs.{Setup}
use Rattle.files.specs.Engines.{Streams}
use Rattle.files.specs.{Fault, UnlessMemory, WritesFront}
use Rattle.files.specs.declared.faults.Fault.TheVariants as fault
use Rattle.model.specs.{Entry}
use Rattle.record_file.specs.{Said, record_of}
use Rattle.judge.specs.Numbers.{numbers_of}

-- a text is that of a record, and P holds of that record and of the numbers of the lines of its entries
pub record IsOfRecord (P : Setup → List Entry → List ℕ → Type 0) (text : List ℕ) : Type 0 where
  pub said : Said
  pub says : record_of text ≡ Ok said
  pub holds : P said.setup said.entries (numbers_of text)

-- why reading ends early: a fault in the text of the input, a failed call, or an allocation failure
abbrev pub IsInputFault : Fault → Option (List ℕ) → Type 0
IsInputFault (fault.Line f) to_come = IfSome to_come (λ text. UnlessMemory f.kind (record_of text ≡ Err f))
IsInputFault fault.Read to_come = Unit {0}
IsInputFault fault.Memory to_come = Unit {0}
IsInputFault fault.Write to_come = ⊥

module _ (Reports : Setup → List Entry → List ℕ → List ℕ → ℕ → Type 0) where
  -- the report on the record of a text was written, and this is its status
  pub record ReportsAll (text : List ℕ) (status : ℕ) (old new : Option (List ℕ)) : Type 0 where
    pub reported : List ℕ
    pub is : IsOfRecord (λ s entries numbers. Reports s entries numbers reported status) text
    pub written : Appends old new reported

  -- a prefix of the report was written
  pub record ReportsFront (text : List ℕ) (old new : Option (List ℕ)) : Type 0 where
    pub reported : List ℕ
    pub status : ℕ
    pub is : IsOfRecord (λ s entries numbers. Reports s entries numbers reported status) text
    pub front : WritesFront old new reported

  -- How the engine ends: with the report on the whole input, or with its fault. Each fault has its cause, and nothing was written unless the report is known.
  abbrev pub TrialEnds : Result ℕ Fault → Streams → Streams → Type 0
  TrialEnds (Ok status) old new = IfSome old.to_come (λ text. ReportsAll text status old.taken new.taken) × IsAtEnd new.to_come
  TrialEnds (Err (fault.Line f)) old new = IfSome old.to_come (λ text. UnlessMemory f.kind (record_of text ≡ Err f)) × Keeps old.taken new.taken
  TrialEnds (Err fault.Read) old new = (old.read_failures < new.read_failures) × Keeps old.taken new.taken
  TrialEnds (Err fault.Write) old new = (old.write_failures < new.write_failures) × IfSome old.to_come (λ text. ReportsFront text old.taken new.taken)
  TrialEnds (Err fault.Memory) old new = Keeps old.taken new.taken
