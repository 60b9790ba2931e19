-- How a function ends by the error of a call.
use Rattle.std.proofs.Common.{◌≡◌, ℕ, ◌+◌, ◌<◌, List, length, take, Option, None, Result, Ok, Err, IfErr, IfOk, IsErr, IsErrAnd, OnErr, sym, subst}
use Rattle.std.specs.Io.KnownBytes.{Consumes, ReadConsumes}
use Rattle.files.specs.{Failed, Fault, GivesByte, IsReadFault, failed_reading}

-- an error is not a value
pub no_value : {A E : Type 0} (r : Result A E) (e : E) (P : A → Type 0) → IsErrAnd r (λ x. x ≡ e) → IfOk r P
no_value (Ok a) e P is = absurd is
no_value (Err x) e P is = tt

-- such an error is a fault of reading, if e is one
pub reports_fault : {A : Type 0} (r : Result A Fault) (e : Fault) → IsErrAnd r (λ x. x ≡ e) → IsReadFault e → IfErr r IsReadFault
reports_fault (Ok a) e is fault = absurd is
reports_fault (Err x) e is fault = subst IsReadFault (sym is) fault

pub counts_fault : {A : Type 0} (r : Result A Fault) (e : Fault) (old mid new : ℕ) → IsErrAnd r (λ x. x ≡ e) → mid ≡ old → new ≡ mid + failed_reading {A = A} (Err e) → new ≡ old + failed_reading r
counts_fault (Ok a) e old mid new is same more = absurd is
counts_fault {A} (Err x) e old mid new is same more = subst (λ e. new ≡ old + failed_reading {A = A} (Err e)) (sym is) (subst (λ n. new ≡ n + failed_reading {A = A} (Err e)) same more)

-- A read that gave no byte to a buffer with room has found the end.
pub none_read : {E : Type 0} (old new : Option (List ℕ)) (buffer : List ℕ) (r : Result ℕ E) (count : ℕ) → 0 < length buffer → count ≡ 0 → ReadConsumes old new r buffer → IfOk r (λ n. ◌≡◌ {A = Result ℕ Failed} (Ok count) (Ok n)) → OnErr r (IsErr {T = ℕ} {E = Failed} (Ok count)) → GivesByte old new (Ok None)
none_read old new buffer (Ok n) count room is came same error =
    let none : n ≡ 0 = cc in
    (subst (λ k. Consumes old new (take k buffer)) none came.0, λ _. came.1 none room)
none_read old new buffer (Err e) count room is came same error = absurd (cc)
