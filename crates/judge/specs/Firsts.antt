-- The first entries of a record.
use Rattle.std.specs.Prelude.{◌≡◌, ℕ, List, length, take, Option, None, Some}
use Rattle.plain_store.specs.{Setup}
use Rattle.model.specs.{Entry}

-- an observer has observed these entries, or the first n of them
abbrev pub HasObservedFirsts : {H : Type 0} → Option ℕ → (H → Setup → List Entry → List ℕ → Type 0) → H → Setup → List Entry → List ℕ → Type 0
HasObservedFirsts None HasObserved h s entries numbers = HasObserved h s entries numbers
HasObservedFirsts (Some n) HasObserved h s entries numbers = (length numbers ≡ length entries) × HasObserved h s (take n entries) (take n numbers)

-- the report on these entries, or on the first n of them
abbrev pub ReportsFirsts : Option ℕ → (Setup → List Entry → List ℕ → List ℕ → ℕ → Type 0) → Setup → List Entry → List ℕ → List ℕ → ℕ → Type 0
ReportsFirsts None Reports s entries numbers reported status = Reports s entries numbers reported status
ReportsFirsts (Some n) Reports s entries numbers reported status = Reports s (take n entries) (take n numbers) reported status
