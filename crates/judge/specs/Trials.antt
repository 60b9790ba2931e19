-- The state of reading a record file, line by line, with an observer of its entries.
use Rattle.std.specs.Prelude.{◌≡◌, ℕ, Bool, true, List, [], ◌++◌, Option, Some, None, Result, Ok, Err}
use Rattle.plain_store.specs.{Setup}
use Rattle.files.specs.{FaultKind, UnlessMemory}
use Rattle.model.specs.{Entry}
use Rattle.record_file.specs.{Progress, cleared, entry_in, line_read}
use Rattle.judge.specs.Numbers.{number_in}

-- the number of entries observed
abbrev pub count_in : {H : Type 0} → (H → ℕ) → Option H → ℕ
count_in count None = 0
count_in count (Some h) = count h

-- whether each entry so far keeps all laws; before the first entry this holds
abbrev pub good_in : {H : Type 0} → (H → Bool) → Option H → Bool
good_in finds_good None = true
good_in finds_good (Some h) = finds_good h

module _ {H : Type 0} (HasObserved : H → Setup → List Entry → List ℕ → Type 0) where
  -- an observer, if there is one, has observed these entries of a record with this setup; otherwise there are no entries
  abbrev pub Observes : Option H → Setup → List Entry → List ℕ → Type 0
  Observes None s entries numbers = (entries ≡ []) × (numbers ≡ [])
  Observes (Some h) s entries numbers = HasObserved h s entries numbers

  -- an observer, if there is one, has observed these entries with the setup that was read; an entry has ended the headings
  abbrev pub ObservesAt : Option H → Option Progress → List Entry → List ℕ → Type 0
  ObservesAt None before entries numbers = (entries ≡ []) × (numbers ≡ [])
  ObservesAt (Some h) None entries numbers = ⊥
  ObservesAt (Some h) (Some p) entries numbers = (p.ended ≡ true) × HasObserved h p.head.setup entries numbers

  -- this was read, its entry was taken, and these entries of the lines with these numbers were observed
  pub record Corresponds (reader : Option Progress) (observer : Option H) (before : Option Progress) (entries : List Entry) (numbers : List ℕ) : Type 0 where
    pub read : reader ≡ before
    pub clear : cleared before ≡ before
    pub observed : ObservesAt observer before entries numbers

  -- a line was read, and its entry, if it has one, was observed
  pub record GoesOn (n : ℕ) (line : List ℕ) (before reader : Option Progress) (observer : Option H) (entries : List Entry) (numbers : List ℕ) : Type 0 where
    pub now : Option Progress
    pub says : line_read line before ≡ Ok now
    pub corresponds : Corresponds reader observer (cleared now) (entries ++ entry_in now) (numbers ++ number_in n line)

  -- how the reading of a line ends
  abbrev pub LineEnds : Result (Unit {0}) FaultKind → ℕ → List ℕ → Option Progress → Option Progress → Option H → List Entry → List ℕ → Type 0
  LineEnds (Ok done) n line before reader observer entries numbers = GoesOn n line before reader observer entries numbers
  LineEnds (Err kind) n line before reader observer entries numbers = UnlessMemory kind (line_read line before ≡ Err kind)

  -- an observer has observed all entries that were read; without an observer no line was read
  abbrev pub IsObserved : Option H → Option Progress → List Entry → List ℕ → Type 0
  IsObserved None before entries numbers = before ≡ None
  IsObserved (Some h) before entries numbers = (p : Progress) × (before ≡ Some p) × HasObserved h p.head.setup entries numbers
