use Rattle.std.proofs.Common.{◌≡◌, ◌++◌, drop, flat_map}
use Rattle.std.specs.String.{string_bytes}
use Rattle.plain_store.specs.{next_pair, store_words}
use Rattle.plain_store.proofs.store_line.store_words.Given as goal

-- the words so far and the pairs to come are the whole store
abbrev pub invariant-loop-place : goal.invariant-loop-place
invariant-loop-place g l = string_bytes l.words ++ flat_map next_pair (drop l.place (g.S.Store.contents l.store).pairs) ≡ store_words (g.S.Store.contents l.store).pairs
