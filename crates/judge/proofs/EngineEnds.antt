-- How the engine ends.
use Rattle.std.proofs.Common.{◌≡◌, ◌+◌, ℕ, List, Option, Some, None, Result, Ok, Err, IfSome, IsErrAnd, sym, subst, ◌∙◌, arith}
use Rattle.std.specs.Io.KnownBytes.{Appends, IsAtEnd, Keeps}
use Rattle.plain_store.specs.{Setup}
use Rattle.files.proofs.EngineEnds.{kept}
use Rattle.files.specs.Engines.{Streams}
use Rattle.files.specs.{Fault, WritesFront, failed_reading}
use Rattle.files.specs.declared.faults.Fault.TheVariants as fault
use Rattle.model.specs.{Entry}
use Rattle.judge.specs.Ends.{IsInputFault, IsOfRecord, ReportsAll, ReportsFront, TrialEnds}

-- a consequence about the whole input, if it is known
if_some : (o : Option (List ℕ)) (P Q : List ℕ → Type 0) → ((x : List ℕ) → P x → Q x) → IfSome o P → IfSome o Q
if_some None P Q then is = tt
if_some (Some x) P Q then is = then x is

-- nothing was written
keeps : (old new : Option (List ℕ)) → new ≡ old → Keeps old new
keeps old new same = subst (λ n. Keeps old n) (sym same) (kept old)

-- the result of a failed write
abbrev pub cut_by : Fault → Result (Unit {0}) Fault
cut_by f = Err f

-- a report on the record that was observed
abbrev pub Reporting : {H : Type 0} → (H → Setup → List Entry → List ℕ → Type 0) → (Setup → List Entry → List ℕ → List ℕ → ℕ → Type 0) → H → List ℕ → ℕ → Type 0
Reporting HasObserved Reports h reported status = (s : Setup) (entries : List Entry) (numbers : List ℕ) → HasObserved h s entries numbers → Reports s entries numbers reported status

module _ {H : Type 0} (HasObserved : H → Setup → List Entry → List ℕ → Type 0) (Reports : Setup → List Entry → List ℕ → List ℕ → ℕ → Type 0) where
  -- the input has a fault, or could not be read
  pub trial_fault : (A : Type 0) (r : Result ℕ Fault) (f : Fault) (old new : Streams) → IsErrAnd r (λ e. e ≡ f) → IsInputFault f old.to_come → new.taken ≡ old.taken → new.read_failures ≡ old.read_failures + failed_reading {A = A} (Err f) → TrialEnds Reports r old new
  trial_fault A (Ok status) f old new is why same failures = absurd is
  trial_fault A (Err e) f old new is why same failures = subst (λ e. TrialEnds Reports (Err e) old new) (sym is) (by f why failures)
    where
      by : (f : Fault) → IsInputFault f old.to_come → new.read_failures ≡ old.read_failures + failed_reading {A = A} (Err f) → TrialEnds Reports (Err f) old new
      by (fault.Line f) why failures = (why, keeps old.taken new.taken same)
      by fault.Read why failures = (omega (arith, failures), keeps old.taken new.taken same)
      by fault.Memory why failures = keeps old.taken new.taken same
      by fault.Write why failures = absurd why

  -- the whole report was written
  pub trial_reported : (h : H) (reported : List ℕ) (status : ℕ) (old new : Streams) → IfSome old.to_come (IsOfRecord (HasObserved h)) → Reporting HasObserved Reports h reported status → IsAtEnd new.to_come → Appends old.taken new.taken reported → TrialEnds Reports (Ok status) old new
  trial_reported h reported status old new observed reporting end written = (
    if_some old.to_come (IsOfRecord (HasObserved h)) (λ text. ReportsAll Reports text status old.taken new.taken) (λ text is. record {
      reported = reported;
      is = record { said = is.said; says = is.says; holds = reporting is.said.setup is.said.entries _ is.holds };
      written = written;
    }) observed,
    end,
  )

  -- a prefix of the report was written before a call failed
  pub trial_cut : (r : Result ℕ Fault) (f : Fault) (h : H) (reported : List ℕ) (status : ℕ) (old new : Streams) → IsErrAnd r (λ e. e ≡ f) → cut_by f ≡ cut_by fault.Write → IfSome old.to_come (IsOfRecord (HasObserved h)) → Reporting HasObserved Reports h reported status → new.write_failures ≡ old.write_failures + 1 →
      WritesFront old.taken new.taken reported → TrialEnds Reports r old new
  trial_cut (Ok s) f h reported status old new is write observed reporting failed front = absurd is
  trial_cut (Err e) f h reported status old new is write observed reporting failed front =
      let same : f ≡ fault.Write = cc in
      subst (λ e. TrialEnds Reports (Err e) old new) (sym (is ∙ same)) (
        omega (arith, failed),
        if_some old.to_come (IsOfRecord (HasObserved h)) (λ text. ReportsFront Reports text old.taken new.taken) (λ text is. record {
          reported = reported;
          status = status;
          is = record { said = is.said; says = is.says; holds = reporting is.said.setup is.said.entries _ is.holds };
          front = front;
        }) observed,
      )
