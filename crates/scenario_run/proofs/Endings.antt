-- Consequences of how an observer's writing ended.
use Rattle.std.proofs.Common.{◌≡◌, ℕ, ◌+◌, Result, Ok, Err, IfErr, OnOk, List, Option, subst, sym, ◌∙◌, add-zero}
use Rattle.scenario.specs.files.{Fault}
use Rattle.scenario.specs.files.declared.faults.Fault.TheVariants as fault
use Rattle.scenario_run.specs.{IsWriteFault, Took, failed_write, took_none}

-- if writing succeeded, no call failed
pub ok_whole : {A P R : Type 0} (r : Result A Fault) (m n : ℕ) → (P → n ≡ m → R) → OnOk r P → n ≡ m + failed_write r → OnOk r R
ok_whole (Ok done) m n then p e = then p (e ∙ add-zero m)
ok_whole (Err f) m n then p e = tt

pub ok_both : {A P Q R : Type 0} (r : Result A Fault) (m n : ℕ) → (P → Q → n ≡ m → R) → OnOk r P → OnOk r Q → n ≡ m + failed_write r → OnOk r R
ok_both (Ok done) m n then p q e = then p q (e ∙ add-zero m)
ok_both (Err f) m n then p q e = tt

-- two facts of a success hold together
pub ok_with : {A E : Type 0} (r : Result A E) (P Q : Type 0) → OnOk r P → OnOk r Q → OnOk r (P × Q)
ok_with (Ok done) P Q p q = (p, q)
ok_with (Err f) P Q p q = tt

-- otherwise writing ended by this fault
pub err_both : {A : Type 0} (r : Result A Fault) (R : Fault → Type 0) (m n : ℕ) → ((f : Fault) → IsWriteFault f → n ≡ m + failed_write {A = Unit {0}} (Err f) → R f) → IfErr r IsWriteFault → n ≡ m + failed_write r → IfErr r R
err_both (Ok done) R m n then is e = tt
err_both (Err fault.Write) R m n then is e = then fault.Write is e
err_both (Err fault.Memory) R m n then is e = then fault.Memory is e
err_both (Err fault.Read) R m n then is e = absurd is
err_both (Err (fault.Line f)) R m n then is e = absurd is

-- a text that has not grown
pub took_same : (P : Type 0) (t u : List ℕ) (a : Option (List ℕ)) (n : ℕ) → u ≡ t → Took P t u a a n n
took_same P t u a n same = subst (λ u. Took P t u a a n n) (sym same) (took_none P t a n)

-- a consequence of a fault, and the number of calls that failed
pub if_err : {A : Type 0} (r : Result A Fault) {P Q : Fault → Type 0} → ((f : Fault) → P f → Q f) → IfErr r P → IfErr r Q
if_err (Ok done) then p = tt
if_err (Err f) then p = then f p

pub failures_by : {A : Type 0} (r : Result A Fault) (m n : ℕ) → OnOk r (n ≡ m) → IfErr r (λ f. n ≡ m + failed_write {A = Unit {0}} (Err f)) → n ≡ m + failed_write r
failures_by (Ok done) m n good bad = good ∙ sym (add-zero m)
failures_by (Err fault.Write) m n good bad = bad
failures_by (Err fault.Memory) m n good bad = bad
failures_by (Err fault.Read) m n good bad = bad
failures_by (Err (fault.Line f)) m n good bad = bad
