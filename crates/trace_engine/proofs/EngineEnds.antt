-- How the engine ends.
use Rattle.std.proofs.Common.{◌≡◌, ◌+◌, ℕ, Bool, List, Option, Some, None, Result, Ok, Err, IfSome, IsErrAnd, sym, subst, ◌∙◌, arith}
use Rattle.std.specs.Io.KnownBytes.{Appends, IsAtEnd, Keeps}
use Rattle.files.proofs.EngineEnds.{kept}
use Rattle.files.specs.Engines.{Streams}
use Rattle.files.specs.{Fault, WritesFront, failed_reading}
use Rattle.files.specs.declared.faults.Fault.TheVariants as fault
use Rattle.trace.specs.{TraceEntry, TraceSetup}
use Rattle.trace_engine.specs.Reports.{HasReported, IsOfTrace, IsTraceFault, ReporterState, ReportsAll, ReportsFront, ReportsTrace, TraceEnds}

-- an implication about the whole input, if the input is known
pub if_some : (o : Option (List ℕ)) (P Q : List ℕ → Type 0) → ((x : List ℕ) → P x → Q x) → IfSome o P → IfSome o Q
if_some None P Q then is = tt
if_some (Some x) P Q then is = then x is

-- the output is unchanged
pub keeps : (old new : Option (List ℕ)) → new ≡ old → Keeps old new
keeps old new same = subst (λ n. Keeps old n) (sym same) (kept old)

-- the result of a failed write
abbrev pub cut_by : Fault → Result (Unit {0}) Fault
cut_by f = Err f

module _ (why : Bool) where
  -- the report on the trace that was observed
  abbrev pub Reporting : ReporterState → List ℕ → ℕ → Type 0
  Reporting t reported status = (s : TraceSetup) (entries : List TraceEntry) (numbers : List ℕ) → HasReported why t s entries numbers → ReportsTrace why s entries numbers reported status

  -- the input has a fault, or could not be read
  pub ends_fault : (A : Type 0) (r : Result ℕ Fault) (f : Fault) (old new : Streams) → IsErrAnd r (λ e. e ≡ f) → IsTraceFault f old.to_come → new.taken ≡ old.taken → new.read_failures ≡ old.read_failures + failed_reading {A = A} (Err f) → TraceEnds why r old new
  ends_fault A (Ok status) f old new is cause same failures = absurd is
  ends_fault A (Err e) f old new is cause same failures = subst (λ e. TraceEnds why (Err e) old new) (sym is) (by f cause failures)
    where
      by : (f : Fault) → IsTraceFault f old.to_come → new.read_failures ≡ old.read_failures + failed_reading {A = A} (Err f) → TraceEnds why (Err f) old new
      by (fault.Line f) cause failures = (cause, keeps old.taken new.taken same)
      by fault.Read cause failures = (omega (arith, failures), keeps old.taken new.taken same)
      by fault.Memory cause failures = keeps old.taken new.taken same
      by fault.Write cause failures = absurd cause

  -- the report was written
  pub ends_reported : (t : ReporterState) (reported : List ℕ) (status : ℕ) (old new : Streams) → IfSome old.to_come (IsOfTrace (HasReported why t)) → Reporting t reported status → IsAtEnd new.to_come → Appends old.taken new.taken reported → TraceEnds why (Ok status) old new
  ends_reported t reported status old new observed report end written = (
    if_some old.to_come (IsOfTrace (HasReported why t)) (λ text. ReportsAll why text status old.taken new.taken) (λ text is. record {
      reported = reported;
      is = record { said = is.said; says = is.says; holds = report is.said.setup is.said.entries is.said.numbers is.holds };
      written = written;
    }) observed,
    end,
  )

  -- only the start of the report was written, because a write failed
  pub ends_cut : (r : Result ℕ Fault) (f : Fault) (t : ReporterState) (reported : List ℕ) (status : ℕ) (old new : Streams) → IsErrAnd r (λ e. e ≡ f) → cut_by f ≡ cut_by fault.Write → IfSome old.to_come (IsOfTrace (HasReported why t)) → Reporting t reported status →
      new.write_failures ≡ old.write_failures + 1 → WritesFront old.taken new.taken reported → TraceEnds why r old new
  ends_cut (Ok s) f t reported status old new is write observed report failed front = absurd is
  ends_cut (Err e) f t reported status old new is write observed report failed front =
      let same : f ≡ fault.Write = cc in
      subst (λ e. TraceEnds why (Err e) old new) (sym (is ∙ same)) (
        omega (arith, failed),
        if_some old.to_come (IsOfTrace (HasReported why t)) (λ text. ReportsFront why text old.taken new.taken) (λ text is. record {
          reported = reported;
          status = status;
          is = record { said = is.said; says = is.says; holds = report is.said.setup is.said.entries is.said.numbers is.holds };
          front = front;
        }) observed,
      )
