use Rattle.std.proofs.Common.{◌++◌, codes, ap, ◌∙◌}
use Rattle.run_state.specs.{store_text}
use Rattle.run_state.proofs.Ranges.{three_written}
use Rattle.run_state.proofs.stores.push_history.Goals as goal

pub returns : goal.returns
returns c =
    three_written c.args.text.now.items _ _ _ _ _ (codes "\n")
    (c.in_ok-extend_from_slice.ensures.items ∙ ap (λ l. c.args.text.now.items ++ l) (c.as_bytes.ensures.value ∙ c.in_ok-head.ensures.ok))
    (c.in_ok-push_store.ensures ∙ (λ i. c.extend_from_slice.new.self.items ++ store_text (c.callers.ensures i) (c.in_ok-store.ensures i)))
    c.in_ok-push.ensures.items
