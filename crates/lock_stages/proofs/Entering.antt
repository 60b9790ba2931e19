-- Where a process enters and breaks neither law, no other is inside, and none is ahead of it.
use Rattle.std.proofs.Common.{◌≡◌, ◌≢◌, ℕ, ◌<◌, ◌==◌, Bool, true, false, not, is_some, ap, ne_eqb}
use Rattle.lock_stages.specs.{Passage, overtakes_another, joins_another, is_ahead, is_other_inside, other_ahead, other_inside}
use Rattle.lock_stages.proofs.Lowest.{and_false, none_below, unsome}

module _ (passage : ℕ → Passage) (n p : ℕ) (enters : Bool) where
  pub none_inside : joins_another passage n p enters ≡ false → enters ≡ true → (q : ℕ) → q < n → q ≢ p → (passage q).inside ≡ false
  none_inside keeps is q below apart =
      and_false (not (q == p)) (passage q).inside
      (none_below n (is_other_inside passage p) (unsome (other_inside passage n p) (and_false enters (is_some (other_inside passage n p)) keeps is)) q below)
      (ap not (ne_eqb q p apart))

  pub none_ahead : overtakes_another passage n p enters ≡ false → enters ≡ true → (q : ℕ) → q < n → is_ahead passage p q ≡ false
  none_ahead keeps is q below =
      none_below n (is_ahead passage p) (unsome (other_ahead passage n p) (and_false enters (is_some (other_ahead passage n p)) keeps is)) q below
