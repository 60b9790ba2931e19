use Rattle.std.proofs.Common.{sym, ap, ◌∙◌}
use Rattle.plain_store.specs.{Contents, after, callers_of}
use Rattle.plain_store.specs.declared.commands.Command.TheVariants.{Write}
use Rattle.plain_store.proofs.GoodSetups.{few-opening}
use Rattle.plain_store.proofs.OpeningPairs.{opened_more}
use Rattle.plain_store.proofs.stores.opened.Goals as goal

-- one more pair
pub loop-place-preserved : goal.loop-place-preserved
loop-place-preserved g c =
    let setup = c.args.setup.now in
    let pair = c.unwrap-name.result in
    c.in_ok-apply.ensures.contents
    ∙ ap (λ (s : Contents). after s (Write pair.0 pair.1) (record { process = 0; number = 0 })) c.loop-place.invariant
    ∙ opened_more setup.slots (callers_of setup) setup.opening c.loop-place.place pair c.len-place-end.ensures.differ (few-opening setup c.requires.good) (sym c.entry.ensures ∙ c.unwrap-name.ensures)
