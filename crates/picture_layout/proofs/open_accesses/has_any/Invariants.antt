use Rattle.std.proofs.Common.{◌≡◌, drop}
use Rattle.picture_layout.specs.{is_any}
use Rattle.picture_layout.proofs.open_accesses.has_any.Given as goal

-- no value before the present one is true
abbrev pub invariant-loop-flag : goal.invariant-loop-flag
invariant-loop-flag l = is_any l.flags ≡ is_any (drop l.flag-index l.flags)
