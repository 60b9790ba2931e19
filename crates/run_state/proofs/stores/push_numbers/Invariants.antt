use Rattle.std.proofs.Common.{◌≡◌, ◌++◌, flat_map, map}
use Rattle.std.specs.List.{range_with_len}
use Rattle.plain_store.specs.{number_of}
use Rattle.run_state.specs.{number_word}
use Rattle.run_state.proofs.stores.push_numbers.Given as goal

-- the numbers of those below were written
abbrev pub invariant-loop-process : goal.invariant-loop-process
invariant-loop-process g l = l.text.items ≡ l.fn.text.items ++ flat_map number_word (map (number_of (g.S.Store.contents l.store).numbers) (range_with_len 0 l.process))
