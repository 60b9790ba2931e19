use Rattle.std.proofs.Common.{◌≡◌, drop}
use Rattle.plain_store.specs.{pairs_in, value_at}
use Rattle.plain_store.proofs.openings.is_among.Given as goal

-- the name has the same value among the remaining places as among all
abbrev pub invariant-loop-place : goal.invariant-loop-place
invariant-loop-place l = value_at (pairs_in (drop l.place-index l.places)) l.name ≡ value_at (pairs_in l.places) l.name
