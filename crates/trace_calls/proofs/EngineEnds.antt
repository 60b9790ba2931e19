-- How the engine ends.
use Rattle.std.proofs.Common.{◌≡◌, ◌+◌, ℕ, List, Result, Ok, Err, IfSome, IsErrAnd, refl, sym, subst, ◌∙◌, arith}
use Rattle.std.specs.Io.KnownBytes.{Appends, IsAtEnd}
use Rattle.files.specs.Engines.{Streams}
use Rattle.files.specs.{Fault, WritesFront, failed_reading}
use Rattle.files.specs.declared.faults.Fault.TheVariants as fault
use Rattle.trace.specs.{TraceEntry, TraceSetup}
use Rattle.trace_engine.specs.{IsOfTrace, IsTraceFault}
use Rattle.trace_engine.proofs.EngineEnds.{cut_by, if_some, keeps}
use Rattle.trace_calls.specs.Tables.{HasTabled, IsTableOf, ListerState, TraceCallsEnd, WritesTable, WritesTableFront}

-- the table of the trace that was listed
abbrev pub Tabling : ListerState → List ℕ → Type 0
Tabling l table = (s : TraceSetup) (entries : List TraceEntry) (numbers : List ℕ) → HasTabled l s entries numbers → IsTableOf table s entries numbers

-- the input has a fault, or could not be read
pub ends_fault : (A : Type 0) (r : Result ℕ Fault) (f : Fault) (old new : Streams) → IsErrAnd r (λ e. e ≡ f) → IsTraceFault f old.to_come → new.taken ≡ old.taken → new.read_failures ≡ old.read_failures + failed_reading {A = A} (Err f) → TraceCallsEnd r old new
ends_fault A (Ok status) f old new is cause same failures = absurd is
ends_fault A (Err e) f old new is cause same failures = subst (λ e. TraceCallsEnd (Err e) old new) (sym is) (by f cause failures)
  where
    by : (f : Fault) → IsTraceFault f old.to_come → new.read_failures ≡ old.read_failures + failed_reading {A = A} (Err f) → TraceCallsEnd (Err f) old new
    by (fault.Line f) cause failures = (cause, keeps old.taken new.taken same)
    by fault.Read cause failures = (omega (arith, failures), keeps old.taken new.taken same)
    by fault.Memory cause failures = keeps old.taken new.taken same
    by fault.Write cause failures = absurd cause

-- the table was written
pub ends_tabled : (l : ListerState) (table : List ℕ) (old new : Streams) → IfSome old.to_come (IsOfTrace (HasTabled l)) → Tabling l table → IsAtEnd new.to_come → Appends old.taken new.taken table → TraceCallsEnd (Ok 0) old new
ends_tabled l table old new listed tables end written = (
  refl,
  if_some old.to_come (IsOfTrace (HasTabled l)) (λ text. WritesTable text old.taken new.taken) (λ text is. record {
    table = table;
    is = record { said = is.said; says = is.says; holds = tables is.said.setup is.said.entries is.said.numbers is.holds };
    written = written;
  }) listed,
  end,
)

-- a front of it was, before a call failed
pub ends_cut : (r : Result ℕ Fault) (f : Fault) (l : ListerState) (table : List ℕ) (old new : Streams) → IsErrAnd r (λ e. e ≡ f) → cut_by f ≡ cut_by fault.Write → IfSome old.to_come (IsOfTrace (HasTabled l)) → Tabling l table →
    new.write_failures ≡ old.write_failures + 1 → WritesFront old.taken new.taken table → TraceCallsEnd r old new
ends_cut (Ok s) f l table old new is write listed tables failed front = absurd is
ends_cut (Err e) f l table old new is write listed tables failed front =
    let same : f ≡ fault.Write = cc in
    subst (λ e. TraceCallsEnd (Err e) old new) (sym (is ∙ same)) (
      omega (arith, failed),
      if_some old.to_come (IsOfTrace (HasTabled l)) (λ text. WritesTableFront text old.taken new.taken) (λ text is. record {
        table = table;
        is = record { said = is.said; says = is.says; holds = tables is.said.setup is.said.entries is.said.numbers is.holds };
        front = front;
      }) listed,
    )
