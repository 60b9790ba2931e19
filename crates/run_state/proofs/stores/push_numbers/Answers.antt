use Rattle.std.proofs.Common.{◌≡◌, ℕ, List, ap, ◌∙◌}
use Rattle.plain_store.specs.{number_of}
use Rattle.run_state.specs.{number_word}
use Rattle.run_state.proofs.Ranges.{words_written}
use Rattle.run_state.proofs.stores.push_numbers.Goals as goal

pub loop-process-preserved : goal.loop-process-preserved
loop-process-preserved g c =
    let numbers : List ℕ = (g.S.Store.contents c.args.store.now).numbers in
    let word : c.as_bytes.result.now ≡ number_word (number_of numbers c.loop-process.process) = c.as_bytes.ensures.value ∙ c.in_ok-word.ensures.ok ∙ ap number_word c.last-number.ensures in
    words_written c.args.text.now.items number_word (number_of numbers) c.loop-process.process c.loop-process.text.items c.extend_from_slice.new.self.items c.as_bytes.result.now c.loop-process.invariant word c.in_ok-extend_from_slice.ensures.items
