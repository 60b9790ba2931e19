use Rattle.std.proofs.Common.{◌≡◌, map}
use Rattle.std.specs.List.{list_any, range_with_len}
use Rattle.plain_store.specs.{number_of}
use Rattle.run_state.specs.{is_some_call}
use Rattle.run_state.proofs.stores.has_numbers.Given as goal

-- one of those below has one
abbrev pub invariant-loop-process : goal.invariant-loop-process
invariant-loop-process g l = l.has ≡ list_any is_some_call (map (number_of (g.S.Store.contents l.store).numbers) (range_with_len 0 l.process))
