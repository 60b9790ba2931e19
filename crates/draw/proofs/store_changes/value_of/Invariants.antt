use Rattle.std.proofs.Common.{◌≡◌, drop}
use Rattle.model.specs.plain_store.{value_at}
use Rattle.draw.proofs.store_changes.value_of.Given as goal

-- the name has among the pairs to come what it has among all
abbrev pub invariant-loop-place : goal.invariant-loop-place
invariant-loop-place g l = value_at (drop l.place (g.S.Store.contents l.store).pairs) l.name ≡ value_at (g.S.Store.contents l.store).pairs l.name
