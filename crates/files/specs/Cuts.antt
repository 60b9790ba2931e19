-- A text that is longer than any file without a fault.
use Rattle.std.specs.Prelude.{◌≡◌, ℕ, List, take, Result, Err}
use Rattle.files.specs.declared.faults.LineFault.{LineFault}

-- The most bytes that an engine reads: 4,096 lines of 128 bytes with two bytes of end, and one more.
abbrev pub input_limit : ℕ
input_limit = 532481

-- two readings have the same fault
pub record HaveSameFault {S : Type 0} (a b : Result S LineFault) : Type 0 where
  pub fault : LineFault
  pub remaining : a ≡ Err fault
  pub right : b ≡ Err fault

-- the first bytes of a text, as many as the limit, have a fault, and the whole text has the same
abbrev pub ReportsAtLimit : {S : Type 0} → (List ℕ → Result S LineFault) → List ℕ → Type 0
ReportsAtLimit reading text = HaveSameFault (reading (take input_limit text)) (reading text)
