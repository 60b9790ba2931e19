-- Faults that are passed on.
use Rattle.std.proofs.Common.{◌≡◌, ℕ, ◌+◌, Result, Ok, Err, IfErr, IsErrAnd, refl, ap, sym, subst, ◌∙◌, arith}
use Rattle.files.specs.{FailsAsWriting, Fault, IsWriteFault, failed_write}
use Rattle.files.specs.declared.faults.Fault.TheVariants as fault

-- a fact about the fault that is passed on
pub on_fault : {A : Type 0} (r : Result A Fault) (e : Fault) (P : Fault → Type 0) → IsErrAnd r (λ x. x ≡ e) → P e → IfErr r P
on_fault (Ok a) e P is p = tt
on_fault (Err x) e P is p = subst P (sym is) p

-- a fault that is passed on counts as it did before
pub failed_same : {A : Type 0} (r : Result A Fault) (e : Fault) → IsErrAnd r (λ x. x ≡ e) → failed_write r ≡ failed_write {A = Unit {0}} (Err e)
failed_same (Ok done) e same = absurd same
failed_same {A} (Err f) e same = failed_kind f ∙ ap (λ f. failed_write {A = Unit {0}} (Err f)) same
  where
    failed_kind : (f : Fault) → failed_write {A = A} (Err f) ≡ failed_write {A = Unit {0}} (Err f)
    failed_kind fault.Write = refl
    failed_kind fault.Memory = refl
    failed_kind fault.Read = refl
    failed_kind (fault.Line f) = refl

-- the fault of a call that writes is passed on, and no call has failed before
pub fails_after : {W A : Type 0} (failures : W → ℕ) (r : Result A Fault) (e : Fault) (old mid new : W) → IsErrAnd r (λ x. x ≡ e) → failures mid ≡ failures old → FailsAsWriting {A = Unit {0}} failures (Err e) mid new →
    FailsAsWriting failures r old new
fails_after failures r e old mid new is whole fails = record {
  fault = on_fault r e IsWriteFault is fails.fault;
  counted = let counted = fails.counted in let same = failed_same r e is in omega (arith, counted, whole, same);
}
