-- The effect of calls of a source and a sink on the known bytes.
use Rattle.std.specs.Prelude.{◌≡◌, ◌+◌, ◌<◌, ◌≤◌, ℕ, ◌==◌, not, ◌&&◌, if◌then◌else◌, List, length, take, Option, None, Result, Ok, Err, IfErr, IfOk, MatchResult}
use Rattle.std.specs.Global.{Vec}
use Rattle.std.specs.Option.{option_to_list}
use Rattle.std.specs.Io.KnownBytes.{Appends, Consumes, IsAtEnd, Keeps}
use Rattle.files.specs.Cuts.{input_limit}
use Rattle.files.specs.declared.faults.Fault.{Fault}
use Rattle.files.specs.declared.faults.Fault.TheVariants.{Line, Read, Write, Memory}
use Rattle.files.specs.declared.streams.Failed.{Failed}

-- a call takes the first byte of those to come, and no byte only at the end; a failed call takes no byte
abbrev pub GivesByte : Option (List ℕ) → Option (List ℕ) → Result (Option ℕ) Failed → Type 0
GivesByte old new r = MatchResult r (λ byte. Consumes old new (option_to_list byte) × (byte ≡ None → IsAtEnd new)) (λ _. Keeps old new)

-- 1 if the call failed
abbrev pub failed_read : {A : Type 0} → Result A Failed → ℕ
failed_read (Ok byte) = 0
failed_read (Err e) = 1

-- 1 if the call failed, or took none of some bytes
abbrev pub failed_put : Result ℕ Failed → List ℕ → ℕ
failed_put (Ok n) bytes = if n == 0 && not (length bytes == 0) then 1 else 0
failed_put (Err e) bytes = 1

-- the bytes came from the front: all that were to come, or as many as the limit
pub record ReadsInput (old new : Option (List ℕ)) (bytes : List ℕ) : Type 0 where
  pub front : Consumes old new bytes
  pub within : length bytes ≤ input_limit
  pub whole : length bytes < input_limit → IsAtEnd new

-- a call returns these bytes, unless it fails
abbrev pub GivesInput : {E : Type 0} → Result (Vec ℕ) E → Option (List ℕ) → Option (List ℕ) → Type 0
GivesInput result old new = IfOk result (λ (bytes : Vec ℕ). ReadsInput old new bytes.items)

-- some bytes came from the front, no more than the limit
pub record ReadsFront (old new : Option (List ℕ)) : Type 0 where
  pub bytes : List ℕ
  pub front : Consumes old new bytes
  pub within : length bytes ≤ input_limit

-- some of the bytes were taken, from the front
pub record WritesFront (old new : Option (List ℕ)) (bytes : List ℕ) : Type 0 where
  pub count : ℕ
  pub front : Appends old new (take count bytes)

-- 1 if reading ended by a call that failed
abbrev pub failed_reading : {A : Type 0} → Result A Fault → ℕ
failed_reading (Err Read) = 1
failed_reading r = 0

-- reading ends early only by a call that failed, or because memory ran out
abbrev pub IsReadFault : Fault → Type 0
IsReadFault Read = Unit {0}
IsReadFault Memory = Unit {0}
IsReadFault Write = ⊥
IsReadFault (Line fault) = ⊥

-- 1 if writing ended by a call that failed, or that took none of some bytes
abbrev pub failed_writing : {A : Type 0} → Result A Fault → ℕ
failed_writing (Ok done) = 0
failed_writing (Err fault) = 1

-- writing ends early only by a call that failed, or because memory ran out
abbrev pub IsWriteFault : Fault → Type 0
IsWriteFault Write = Unit {0}
IsWriteFault Memory = Unit {0}
IsWriteFault Read = ⊥
IsWriteFault (Line fault) = ⊥

-- 1 if a call of the sink failed
abbrev pub failed_write : {A : Type 0} → Result A Fault → ℕ
failed_write (Err Write) = 1
failed_write (Err Memory) = 0
failed_write (Err Read) = 0
failed_write (Err (Line fault)) = 0
failed_write (Ok done) = 0

-- A call that writes fails only as writing fails, and then the sink has counted a call that failed.
pub record FailsAsWriting {W A : Type 0} (failures : W → ℕ) (result : Result A Fault) (old new : W) : Type 0 where
  pub fault : IfErr result IsWriteFault
  pub counted : failures new ≡ failures old + failed_write result
