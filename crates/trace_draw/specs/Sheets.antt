-- What holds while a trace file is read and drawn line by line, and how that ends.
use Rattle.std.specs.Prelude.{◌≡◌, ◌<◌, ℕ, Bool, List, Option, None, Some, IfSome, Result, Ok, Err, option_map}
use Rattle.std.specs.Io.KnownBytes.{IsAtEnd}
use Rattle.files.specs.Engines.{Streams}
use Rattle.files.specs.{Fault, UnlessMemory}
use Rattle.files.specs.declared.faults.Fault.TheVariants as fault
use Rattle.draw.specs.{LeavesNone}
use Rattle.picture.specs.{Form}
use Rattle.picture.specs.declared.reads.PictureOptions.{PictureOptions}
use Rattle.trace.specs.{TraceEntry}
use Rattle.trace_engine.specs.trace_file.TraceFiles.{TraceProgress, trace_said}
use Rattle.trace_engine.specs.{GoesOn, IsOfTrace, IsReadUpTo}
use Rattle.trace_draw.specs.Showing.{DrawsTraceSaid, EndsTrace, HasShown, IsReported, SoFar}
use Rattle.trace_draw.specs.declared.pictures.DrawnTrace.{DrawnTrace}
use Rattle.trace_draw.specs.declared.pictures.TracePicture.{TracePicture}
use Rattle.trace_draw.specs.declared.views.TraceView.{TraceView}

-- a picture, if there is one, with what its output has taken
abbrev pub with_output : Option (List ℕ) → Option TracePicture → Option SoFar
with_output now = option_map (λ picture. (picture, now))

-- as long as there is no picture, nothing was written
abbrev pub NothingYet : Option TracePicture → Option (List ℕ) → Option (List ℕ) → Type 0
NothingYet None first now = now ≡ first
NothingYet (Some picture) first now = Unit {0}

module _ (view : TraceView) where
  -- this was read, it said these entries in the lines with these numbers, and they were judged and drawn
  pub record Corresponds (reader : Option TraceProgress) (picture : Option TracePicture) (first now : Option (List ℕ)) (before : Option TraceProgress) (entries : List TraceEntry) (numbers : List ℕ) : Type 0 where
    pub read_up_to : IsReadUpTo (HasShown view first) reader (with_output now picture) before entries numbers
    pub nothing : NothingYet picture first now

  -- what a line means was read, and judged and drawn if it is an entry
  pub record CorrespondsAfter (reader : Option TraceProgress) (picture : Option TracePicture) (first now : Option (List ℕ)) (n : ℕ) (line : List ℕ) (before : Option TraceProgress) (entries : List TraceEntry) (numbers : List ℕ) : Type 0 where
    pub goes_on : GoesOn (HasShown view first) n line before reader (with_output now picture) entries numbers
    pub nothing : NothingYet picture first now

  -- a line was read, whatever was read before it
  abbrev pub DrawsLine : (reader : Option TraceProgress) (picture : Option TracePicture) (now : Option (List ℕ)) (reader' : Option TraceProgress) (picture' : Option TracePicture) (then : Option (List ℕ)) → ℕ → List ℕ → Type 0
  DrawsLine reader picture now reader' picture' then n line =
      (first : Option (List ℕ)) (before : Option TraceProgress) (entries : List TraceEntry) (numbers : List ℕ) → Corresponds reader picture first now before entries numbers → CorrespondsAfter reader' picture' first then n line before entries numbers

  -- all bands were drawn, whatever was read
  abbrev pub EndsSheet : DrawnTrace → (reader : Option TraceProgress) (picture : Option TracePicture) (now then : Option (List ℕ)) → Type 0
  EndsSheet drawn reader picture now then =
      (first : Option (List ℕ)) (p : TraceProgress) (entries : List TraceEntry) (numbers : List ℕ) → Corresponds reader picture first now (Some p) entries numbers →
      IsReported view.judged (λ s shown reported. EndsTrace view.form view.options drawn s shown reported first then) drawn.status p.setup entries numbers

-- all bands of the trace that a text says were written
abbrev pub DrawsAllBands : TraceView → DrawnTrace → Option (List ℕ) → Option (List ℕ) → List ℕ → Type 0
DrawsAllBands view drawn old new = IsOfTrace (IsReported view.judged (λ s shown reported. EndsTrace view.form view.options drawn s shown reported old new) drawn.status)

-- The picture of the trace that a text says, with its report: all entries, or those up to the
-- first bad one and the report of the judge, as far as the window shows them. All accesses
-- are shown if they are asked for, if these entries are few, or if the window is short.
abbrev pub DrawsTrace : Bool → PictureOptions → Form → ℕ → List ℕ → Option (List ℕ) → Option (List ℕ) → Type 0
DrawsTrace judged options form status text old new = IsOfTrace (IsReported judged (λ s shown reported. DrawsTraceSaid form options s shown reported old new) status) text

-- why drawing ends early: a fault of what the input says, a call that failed, or allocation failure
abbrev pub IsDrawFault : Fault → Option (List ℕ) → Type 0
IsDrawFault (fault.Line f) to_come = IfSome to_come (λ text. UnlessMemory f.kind (trace_said text ≡ Err f))
IsDrawFault fault.Read to_come = Unit {0}
IsDrawFault fault.Write to_come = Unit {0}
IsDrawFault fault.Memory to_come = Unit {0}

-- How drawing a trace ends: with a picture of what the whole input says and the exit status, or with a fault, which is the fault that judging it has. Each fault has its cause.
abbrev pub DrewTrace : Bool → PictureOptions → Form → Result ℕ Fault → Streams → Streams → Type 0
DrewTrace judged options form (Ok status) old new = IfSome old.to_come (λ text. DrawsTrace judged options form status text old.taken new.taken) × IsAtEnd new.to_come
DrewTrace judged options form (Err (fault.Line f)) old new = IfSome old.to_come (λ text. UnlessMemory f.kind (trace_said text ≡ Err f)) × LeavesNone form old.taken new.taken
DrewTrace judged options form (Err fault.Read) old new = (old.read_failures < new.read_failures) × LeavesNone form old.taken new.taken
DrewTrace judged options form (Err fault.Write) old new = old.write_failures < new.write_failures
DrewTrace judged options form (Err fault.Memory) old new = Unit {0}
