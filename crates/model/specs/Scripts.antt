-- Scripts: number accesses one after the other, with their marks.
use Rattle.std.specs.Prelude.{ℕ, Bool, List, [], ◌∷◌, ◌++◌, flat_map, slice_get, Option, None, Some}
use Rattle.model.specs.declared.access.Access.{Access}
use Rattle.model.specs.declared.access.Field.{Field}
use Rattle.plain_store.specs.{Caller, Command, Setup}
use Rattle.model.specs.declared.marks.Mark.{Mark}
use Rattle.model.specs.Registers.{write_of, read_of}

-- one number access, with the marks on its first begin and on its last end
pub record Portion : Type 0 where
  pub accesses : List Access
  pub first : List Mark
  pub last : List Mark

-- number accesses, one after the other
abbrev pub Script : Type 0
Script = List Portion

-- one access to be made, and its marks
pub record Next : Type 0 where
  pub access : Access
  pub marks : List Mark

-- the accesses of a number access one by one, with their marks
abbrev pub single : List Mark → List Mark → List Access → List Next
single first last [] = []
single first last (a ∷ []) = record { access = a; marks = first ++ last } ∷ []
single first last (a ∷ b ∷ rest) = record { access = a; marks = first } ∷ single [] last (b ∷ rest)

-- the accesses of a script one by one, with their marks
abbrev pub singles : Script → List Next
singles = flat_map (λ q. single q.first q.last q.accesses)

-- access number k of a script, counted from 0
abbrev pub nth : ℕ → Script → Option Next
nth k script = slice_get (singles script) k

-- the marks of access number k of a script
abbrev pub marks_at : ℕ → Script → List Mark
marks_at k script = elim (nth k script) [ None ↦ [] | Some n ↦ n.marks ]

-- a call: the setup, who calls, with what, and the call's number
pub record Call : Type 0 where
  pub setup : Setup
  pub process : ℕ
  pub command : Command
  pub number : ℕ

-- the caller that gives the call's command to the store
abbrev pub caller : Call → Caller
caller c = record { process = c.process; number = c.number }

-- the numbers that a call has read so far, in order, each as its bits
abbrev pub Numbers : Type 0
Numbers = List (List Bool)

-- a write of one of the caller's own registers
abbrev pub writing : Call → Field → List Bool → List Mark → List Mark → Portion
writing c field bits first last = record { accesses = write_of c.setup c.process field bits; first = first; last = last }

-- a read of a register
abbrev pub reading : Call → ℕ → Field → List Mark → Portion
reading c owner field last = record { accesses = read_of c.setup c.process owner field; first = []; last = last }

-- a read, and what follows from its value: the script ends with the first read that is not finished
abbrev pub then_read : Call → ℕ → Field → (List Bool → List Mark) → (List Bool → Numbers → Script) → Numbers → Script
then_read c owner field marks next [] = reading c owner field [] ∷ []
then_read c owner field marks next (value ∷ more) = reading c owner field (marks value) ∷ next value more

-- no marks, whatever the value
abbrev pub none : List Bool → List Mark
none value = []
