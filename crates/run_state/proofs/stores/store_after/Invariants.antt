use Rattle.std.proofs.Common.{◌≡◌, take}
use Rattle.model.specs.{store_after}
use Rattle.run_state.proofs.stores.store_after.Given as goal

-- the store after the commands so far
abbrev pub invariant-loop-taken : goal.invariant-loop-taken
invariant-loop-taken l = l.store ≡ store_after l.setup (take l.taken-index l.history)
