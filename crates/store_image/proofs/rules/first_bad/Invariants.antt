use Rattle.std.proofs.Common.{◌≡◌, ◌<◌, ℕ, true}
use Rattle.store_image.specs.{follows_rules}
use Rattle.store_image.proofs.rules.first_bad.Given as goal

-- the slots before this one follow the rules
abbrev pub invariant-loop-place : goal.invariant-loop-place
invariant-loop-place l = (j : ℕ) → j < l.place → follows_rules l.bytes j ≡ true
