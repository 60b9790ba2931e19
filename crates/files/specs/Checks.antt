-- Checks made one after another: the first that fails gives the fault.
use Rattle.std.specs.Prelude.{ℕ, Bool, not, ◌==◌, if◌then◌else◌, List, [], length, slice_index_or, Option, Some, None, Result, Ok, Err}
use Rattle.files.specs.declared.faults.FaultKind.{FaultKind}
use Rattle.files.specs.declared.faults.FaultKind.TheVariants.{Unknown, Words}

infixl 10 ◌>>=◌
-- one check and then, if it passes, the next
abbrev pub ◌>>=◌ : {A B E : Type 0} → Result A E → (A → Result B E) → Result B E
(Ok x) >>= f = f x
(Err e) >>= f = Err e

-- a fault, if a test holds
abbrev pub fault_if : Bool → FaultKind → Result (Unit {0}) FaultKind
fault_if test fault = if test then Err fault else Ok tt

-- the meaning of a key word, or a fault if the word is not in the table
abbrev pub known : {A : Type 0} → Option A → Result A FaultKind
known None = Err Unknown
known (Some x) = Ok x

-- there must be this number of words
abbrev pub counted : ℕ → List (List ℕ) → Result (Unit {0}) FaultKind
counted n words = fault_if (not (length words == n)) Words

-- the word at a position
abbrev pub word : ℕ → List (List ℕ) → List ℕ
word i words = slice_index_or words i []
