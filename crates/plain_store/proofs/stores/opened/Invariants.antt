use Rattle.std.proofs.Common.{◌≡◌, take, replicate}
use Rattle.plain_store.specs.{callers_of}
use Rattle.plain_store.proofs.stores.opened.Given as goal

-- the pairs before the place are written
abbrev pub invariant-loop-place : goal.invariant-loop-place
invariant-loop-place g l = g.S.Store.contents l.store ≡ record { pairs = take l.place l.setup.opening; slots = l.setup.slots; numbers = replicate (callers_of l.setup) 0 }
