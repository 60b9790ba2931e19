-- The effect of an engine that prints a text for a file: the bytes that it has read and written.
use Rattle.std.specs.Prelude.{◌≡◌, ℕ, ◌<◌, List, Option, [], IfSome, Result, Ok, Err}
use Rattle.std.specs.Io.KnownBytes.{Appends, IsAtEnd, Keeps}
use Rattle.files.specs.Checks.{◌>>=◌}
use Rattle.files.specs.Reads.{UnlessMemory}
use Rattle.files.specs.Streams.{WritesFront}
use Rattle.files.specs.declared.faults.Fault.{Fault}
use Rattle.files.specs.declared.faults.Fault.TheVariants as fault
use Rattle.files.specs.declared.faults.LineFault.{LineFault}
use Rattle.files.specs.declared.streams.Sink as sink
use Rattle.files.specs.declared.streams.Source as source

-- a source and a sink at one moment: their bytes, as far as they are known, and their failures
pub record Streams : Type 0 where
  pub to_come : Option (List ℕ)
  pub taken : Option (List ℕ)
  pub read_failures : ℕ
  pub write_failures : ℕ

-- the known bytes of a source and a sink, and their failures
abbrev pub streams : {R W : Type 0} → source.Ghosts R → sink.Ghosts W → R → W → Streams
streams reported_of_source reported_of_sink r w = record {
  to_come = reported_of_source.to_come r;
  taken = reported_of_sink.taken w;
  read_failures = reported_of_source.failures r;
  write_failures = reported_of_sink.failures w;
}

-- the text that an engine prints for the value of a file
abbrev pub text_by : {S : Type 0} → (List ℕ → Result S LineFault) → (S → List ℕ) → List ℕ → Result (List ℕ) LineFault
text_by reading printed input = reading input >>= λ said. Ok (printed said)

-- a text, or no byte
abbrev pub text_or_none : Result (List ℕ) LineFault → List ℕ
text_or_none (Ok text) = text
text_or_none (Err fault) = []

module _ (text_of : List ℕ → Result (List ℕ) LineFault) where
  -- the whole text of the whole input was written
  abbrev pub WritesAll : Streams → Streams → Type 0
  WritesAll old new = IfSome old.to_come (λ input. (text : List ℕ) × (text_of input ≡ Ok text) × Appends old.taken new.taken text) × IsAtEnd new.to_come

  -- a prefix of the text was written
  abbrev pub WritesSome : Streams → Streams → Type 0
  WritesSome old new = IfSome old.to_come (λ input. (text : List ℕ) × (text_of input ≡ Ok text) × WritesFront old.taken new.taken text)

  -- a prefix of the text was written, and no byte if the input has a fault
  abbrev pub WritesFrontIfAny : Streams → Streams → Type 0
  WritesFrontIfAny old new = IfSome old.to_come (λ input. WritesFront old.taken new.taken (text_or_none (text_of input)))

  -- The ends of an engine: each fault has its cause, and after a fault of the input nothing was written.
  abbrev pub Ran : Result (Unit {0}) Fault → Streams → Streams → Type 0
  Ran (Ok done) old new = WritesAll old new
  Ran (Err (fault.Line f)) old new = IfSome old.to_come (λ input. UnlessMemory f.kind (text_of input ≡ Err f)) × Keeps old.taken new.taken
  Ran (Err fault.Read) old new = (old.read_failures < new.read_failures) × Keeps old.taken new.taken
  Ran (Err fault.Write) old new = (old.write_failures < new.write_failures) × WritesSome old new
  Ran (Err fault.Memory) old new = WritesFrontIfAny old new
