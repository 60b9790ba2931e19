use Rattle.std.proofs.Common.{◌++◌, ◌+◌, ap, ◌∙◌, sym, drop, flat_map, arith}
use Rattle.plain_store.specs.{next_pair}
use Rattle.plain_store.proofs.StoreLines.{all_reported, first_pair, no_pairs, pairs_more}
use Rattle.plain_store.proofs.store_line.store_words.Goals as goal

-- the first pair
pub loop-place-init : goal.loop-place-init
loop-place-init g c = grind (arith, first_pair)

-- no pairs
pub returns-in_default : goal.returns-in_default
returns-in_default g c = grind (arith, no_pairs)

-- one more pair
pub loop-place-preserved : goal.loop-place-preserved
loop-place-preserved g c =
    ap (λ bytes. bytes ++ flat_map next_pair (drop (c.loop-place.place + 1) (g.S.Store.contents c.args.store.now).pairs)) c.in_ok-push_pair.ensures
    ∙ pairs_more _ _ c.loop-place.place c.unwrap-name.result (sym c.entry-in-loop-place.ensures ∙ c.unwrap-name.ensures) ∙ c.loop-place.invariant

-- no pair remains
pub returns : goal.returns
returns g c = sym (all_reported _ _ c.loop-place.place (omega arith)) ∙ c.loop-place.invariant
