-- There is no lowest number if the test holds of no number.
use Rattle.std.proofs.Common.{◌≡◌, ℕ, zero, suc, Bool, false, None, refl, sym, ap, ◌∙◌, add-one}
use Rattle.any_lock.specs.{lowest_below}
use Rattle.any_lock.proofs.lock_stages.Lowest.{lowest_none}

pub none_below : (n : ℕ) (test : ℕ → Bool) → ((k : ℕ) → test k ≡ false) → lowest_below n test ≡ None
none_below zero test never = refl
none_below (suc n) test never = ap (λ k. lowest_below k test) (sym (add-one n)) ∙ lowest_none n test (none_below n test never) (never n)
