-- Checks that passed.
use Rattle.std.proofs.Common.{◌≡◌, ℕ, ◌==◌, not, Bool, true, false, List, length, Result, Ok, Err, refl, arith}
use Rattle.std.proofs.lemmas.Bool.Decides.{nat_tests}
use Rattle.files.specs.{FaultKind, counted, fault_if, ◌>>=◌}
use Rattle.files.specs.declared.faults.FaultKind.TheVariants.{Words}

-- two checks that passed, one after the other
pub record Passed {A B E : Type 0} (r : Result A E) (f : A → Result B E) (y : B) : Type 0 where
  pub value : A
  pub first : r ≡ Ok value
  pub next : f value ≡ Ok y

pub passed : {A B E : Type 0} (r : Result A E) (f : A → Result B E) (y : B) → (r >>= f) ≡ Ok y → Passed r f y
passed (Ok x) f y h = record { value = x; first = refl; next = h }
passed (Err e) f y h = absurd (cc)

-- a test that held back no fault
pub no_fault : (b : Bool) (kind : FaultKind) (u : Unit {0}) → fault_if b kind ≡ Ok u → b ≡ false
no_fault true kind u passed = absurd (cc)
no_fault false kind u passed = refl

-- how many words there are
pub length_of : (n : ℕ) (ws : List (List ℕ)) (u : Unit {0}) → counted n ws ≡ Ok u → length ws ≡ n
length_of n ws u counts = let is : not (length ws == n) ≡ false = no_fault (not (length ws == n)) Words u counts in grind (arith, nat_tests)
