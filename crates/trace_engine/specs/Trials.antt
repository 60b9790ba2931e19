-- The state while a trace file is read, line by line.
use Rattle.std.specs.Prelude.{◌≡◌, ℕ, true, List, [], ◌++◌, Option, Some, None, Result, Ok, Err}
use Rattle.files.specs.{FaultKind, UnlessMemory}
use Rattle.trace.specs.{TraceEntry, TraceSetup}
use Rattle.trace_file.specs.TraceFiles.{TraceProgress, cleared, entry_in, line_read, number_in}
use Rattle.trace_engine.specs.Reports.{ReporterState}

-- the number of entries that were observed
abbrev pub count_by : {H : Type 0} → (H → ℕ) → Option H → ℕ
count_by count None = 0
count_by count (Some h) = count h

abbrev pub count_in : Option ReporterState → ℕ
count_in = count_by (λ t. t.judge.entries)

-- The state of an observer of entries; `HasObserved` means that it has observed these entries of a trace with this setup, at the lines with these numbers.
module _ {H : Type 0} (HasObserved : H → TraceSetup → List TraceEntry → List ℕ → Type 0) where
  -- these entries were observed, if there are any
  abbrev pub Observes : Option H → TraceSetup → List TraceEntry → List ℕ → Type 0
  Observes None s entries numbers = (entries ≡ []) × (numbers ≡ [])
  Observes (Some t) s entries numbers = HasObserved t s entries numbers

  -- these entries were observed with the setup that was read, which no entry changes
  abbrev pub ObservesAt : Option H → Option TraceProgress → List TraceEntry → List ℕ → Type 0
  ObservesAt None before entries numbers = (entries ≡ []) × (numbers ≡ [])
  ObservesAt (Some t) None entries numbers = ⊥
  ObservesAt (Some t) (Some p) entries numbers = (p.ended ≡ true) × HasObserved t p.setup entries numbers

  -- this was read, these entries were read at the lines with these numbers, each was taken, and they were observed
  pub record IsReadUpTo (reader : Option TraceProgress) (observer : Option H) (before : Option TraceProgress) (entries : List TraceEntry) (numbers : List ℕ) : Type 0 where
    pub read : reader ≡ before
    pub clear : cleared before ≡ before
    pub observed : ObservesAt observer before entries numbers

  -- the line was read, and observed if it is an entry
  pub record GoesOn (n : ℕ) (line : List ℕ) (before reader : Option TraceProgress) (observer : Option H) (entries : List TraceEntry) (numbers : List ℕ) : Type 0 where
    pub now : Option TraceProgress
    pub says : line_read line before ≡ Ok now
    pub read_up_to : IsReadUpTo reader observer (cleared now) (entries ++ entry_in now) (numbers ++ number_in n now)

  -- the end of a line: it was read, or it has a fault
  abbrev pub LineEnds : Result (Unit {0}) FaultKind → ℕ → List ℕ → Option TraceProgress → Option TraceProgress → Option H → List TraceEntry → List ℕ → Type 0
  LineEnds (Ok done) n line before reader observer entries numbers = GoesOn n line before reader observer entries numbers
  LineEnds (Err kind) n line before reader observer entries numbers = UnlessMemory kind (line_read line before ≡ Err kind)

  -- all entries that were read were observed; without an observer no line was read
  abbrev pub IsObserved : Option H → Option TraceProgress → List TraceEntry → List ℕ → Type 0
  IsObserved None before entries numbers = before ≡ None
  IsObserved (Some t) before entries numbers = (p : TraceProgress) × (before ≡ Some p) × HasObserved t p.setup entries numbers
