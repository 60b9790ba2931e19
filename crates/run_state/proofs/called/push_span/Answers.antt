use Rattle.std.proofs.Common.{ℕ, List, Option, ◌++◌, sym, ap, ◌∙◌}
use Rattle.run_state.specs.{line_if}
use Rattle.run_state.specs.Lines.{span_words}
use Rattle.run_state.proofs.ObservedWorlds.{ok_then}
use Rattle.run_state.proofs.called.push_span.Goals as goal

pub returns : goal.returns
returns c = ok_then c.push_words.result
    (λ wrote. wrote ∙ ap (λ (words : Option (List ℕ)). c.args.text.now.items ++ line_if c.args.process words) (c.in_ok-words.ensures ∙ ap (λ (from : Option ℕ). span_words c.args.what.now from c.args.to) (sym c.in-Some.is)))
    c.push_words.ensures
