use Rattle.std.proofs.Common.{◌≡◌, ◌++◌, ◌∷◌, [], ap, refl, sym, ◌∙◌, arith, length, slice_get}
use Rattle.std.specs.Prelude.{List}
use Rattle.std.proofs.lemmas.List.FromFn.{length-map-range_with_len}
use Rattle.run_state.specs.{ProcessSummary, nothing_kept}
use Rattle.run_state.proofs.Keeps.{nothing_more, nothing_there}
use Rattle.run_state.proofs.observed_run.ObservedRun.new.Goals as goal

pub loop-process-preserved : goal.loop-process-preserved
loop-process-preserved c =
    c.in_ok-push.ensures.items ∙ (λ i. c.loop-process.invariant i ++ c.nothing.ensures i ∷ []) ∙ sym (nothing_more c.loop-process.process)

pub returns-clause-observed : goal.returns-clause-observed
returns-clause-observed c = record {
  kept = λ p below. ap (λ (l : List ProcessSummary). slice_get l p) c.loop-process.invariant ∙ nothing_there c.loop-process.process p (omega (arith, below, c.loop-process-test.false));
  entries = refl;
}

pub invariant_of-result : goal.invariant_of-result
invariant_of-result c =
    let all : c.loop-process.process ≡ c.args.setup.now.processes = omega (arith, c.loop-process-test.false, c.loop-process.auto.process-end) in
    record {
      good = c.requires;
      processes = ap (λ (l : List ProcessSummary). length l) c.loop-process.invariant ∙ length-map-range_with_len nothing_kept 0 c.loop-process.process ∙ all;
    }
