-- The report on a trace.
use Rattle.std.specs.Prelude.{◌≡◌, ◌<◌, ℕ, Bool, true, false, List, [], ◌∷◌, ◌++◌, length, reverse, slice_get, Option, Some, IfSome, Result, Ok, Err}
use Rattle.std.specs.Io.KnownBytes.{Appends, IsAtEnd, Keeps}
use Rattle.files.specs.Engines.{Streams}
use Rattle.files.specs.{Fault, UnlessMemory, WritesFront}
use Rattle.files.specs.declared.faults.Fault.TheVariants as fault
use Rattle.trace.specs.{TraceEntry, TracePast, TraceSetup}
use Rattle.trace_file.specs.TraceFiles.{TraceSaid, trace_said}
use Rattle.trace_judge.specs.{AreReasons, HasJudged, JudgeState, MeansSound, TraceLaw, TraceReasons, TraceVerdict, verdict_of}
use Rattle.trace_judge.specs.declared.verdicts.TraceVerdict.TheVariants.{Good, Bad}
use Rattle.trace_engine.specs.Lines.{trace_reason_lines, trace_status_of, trace_verdict_line}

-- these are the lines of the reasons of entry k, which breaks law l first, after the entries before it
pub record AreLinesAt (s : TraceSetup) (entries : List TraceEntry) (numbers : List ℕ) (k : ℕ) (l : TraceLaw) (lines : List ℕ) : Type 0 where
  pub entry : TraceEntry
  pub past : TracePast
  pub later : TracePast
  pub splits : reverse entries ≡ later ++ entry ∷ past
  pub place : length past ≡ k
  pub number : ℕ  -- the number of its line
  pub line : slice_get numbers k ≡ Some number
  pub given : TraceReasons
  pub are : AreReasons s past entry l given
  pub is : lines ≡ trace_reason_lines number s.registers entry given

-- these are the lines after a verdict: those of the reasons of a bad verdict, if they are asked for
abbrev pub AreLinesOf : Bool → TraceSetup → List TraceEntry → List ℕ → TraceVerdict → List ℕ → Type 0
AreLinesOf why s entries numbers Good lines = lines ≡ []
AreLinesOf false s entries numbers (Bad k l) lines = lines ≡ []
AreLinesOf true s entries numbers (Bad k l) lines = AreLinesAt s entries numbers k l lines

-- the verdict is good
abbrev pub is_good : TraceVerdict → Bool
is_good Good = true
is_good (Bad k l) = false

-- a judge, whether reasons are asked for, and their lines
pub record ReporterState : Type 0 where
  pub judge : JudgeState
  pub why : Bool
  pub lines : List ℕ

-- the reporter has observed these entries of a trace with this setup, at the lines with these numbers; `why` is whether reasons are asked for
pub record HasReported (why : Bool) (t : ReporterState) (s : TraceSetup) (entries : List TraceEntry) (numbers : List ℕ) : Type 0 where
  pub asked : t.why ≡ why
  pub judged : HasJudged t.judge s entries
  pub counted : length numbers ≡ length entries
  pub are : AreLinesOf why s entries numbers t.judge.verdict t.lines

-- this text and this status are the report on such a trace
pub record ReportsTrace (why : Bool) (s : TraceSetup) (entries : List TraceEntry) (numbers reported : List ℕ) (status : ℕ) : Type 0 where
  pub lines : List ℕ
  pub are : AreLinesOf why s entries numbers (verdict_of s entries) lines
  pub answer : status ≡ trace_status_of (verdict_of s entries)
  pub sound : MeansSound (verdict_of s entries) entries  -- if it is good, no process enters while another is inside or ahead
  pub text : reported ≡ trace_verdict_line (length entries) (verdict_of s entries) ++ lines

-- the text means a trace, and this holds of that trace and of the line numbers of its entries
pub record IsOfTrace (P : TraceSetup → List TraceEntry → List ℕ → Type 0) (text : List ℕ) : Type 0 where
  pub said : TraceSaid
  pub says : trace_said text ≡ Ok said
  pub holds : P said.setup said.entries said.numbers

-- the cause of an early end of reading: a fault of the input, a failed call, or a failed allocation
abbrev pub IsTraceFault : Fault → Option (List ℕ) → Type 0
IsTraceFault (fault.Line f) to_come = IfSome to_come (λ text. UnlessMemory f.kind (trace_said text ≡ Err f))
IsTraceFault fault.Read to_come = Unit {0}
IsTraceFault fault.Memory to_come = Unit {0}
IsTraceFault fault.Write to_come = ⊥

-- the report on the trace that a text means was written, and its status is returned
pub record ReportsAll (why : Bool) (text : List ℕ) (status : ℕ) (old new : Option (List ℕ)) : Type 0 where
  pub reported : List ℕ
  pub is : IsOfTrace (λ s entries numbers. ReportsTrace why s entries numbers reported status) text
  pub written : Appends old new reported

-- only the start of that report may have been written
pub record ReportsFront (why : Bool) (text : List ℕ) (old new : Option (List ℕ)) : Type 0 where
  pub reported : List ℕ
  pub status : ℕ
  pub is : IsOfTrace (λ s entries numbers. ReportsTrace why s entries numbers reported status) text
  pub front : WritesFront old new reported

-- How the engine ends: with the status of the verdict on the whole input, after the report was written; or with a fault. Each fault has its cause, and nothing was written unless the verdict is known.
abbrev pub TraceEnds : Bool → Result ℕ Fault → Streams → Streams → Type 0
TraceEnds why (Ok status) old new = IfSome old.to_come (λ text. ReportsAll why text status old.taken new.taken) × IsAtEnd new.to_come
TraceEnds why (Err (fault.Line f)) old new = IfSome old.to_come (λ text. UnlessMemory f.kind (trace_said text ≡ Err f)) × Keeps old.taken new.taken
TraceEnds why (Err fault.Read) old new = (old.read_failures < new.read_failures) × Keeps old.taken new.taken
TraceEnds why (Err fault.Write) old new = (old.write_failures < new.write_failures) × IfSome old.to_come (λ text. ReportsFront why text old.taken new.taken)
TraceEnds why (Err fault.Memory) old new = Keeps old.taken new.taken
