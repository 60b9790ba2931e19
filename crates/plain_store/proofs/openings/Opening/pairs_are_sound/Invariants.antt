use Rattle.std.proofs.Common.{◌≡◌, take, true}
use Rattle.std.specs.List.{list_all}
use Rattle.plain_store.specs.{is_pair}
use Rattle.plain_store.proofs.openings.Opening.pairs_are_sound.Given as goal

-- the pairs before the place are pairs
abbrev pub invariant-loop-place : goal.invariant-loop-place
invariant-loop-place l = list_all is_pair (take l.place l.self) ≡ true
