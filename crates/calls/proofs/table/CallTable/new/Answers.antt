use Rattle.std.proofs.Common.{◌≡◌, ◌++◌, ◌∷◌, [], ap, refl, sym, ◌∙◌, arith, length, slice_get}
use Rattle.std.specs.Prelude.{List}
use Rattle.std.proofs.lemmas.List.FromFn.{length-map-range_with_len}
use Rattle.calls.specs.{CallState, at_rest}
use Rattle.calls.proofs.Observed.{at_rest_more, at_rest-there}
use Rattle.calls.proofs.table.CallTable.new.Goals as goal

pub loop-process-preserved : goal.loop-process-preserved
loop-process-preserved c =
    c.in_ok-push.ensures.items ∙ (λ i. c.loop-process.invariant i ++ c.at_rest.ensures i ∷ []) ∙ sym (at_rest_more c.loop-process.process)

pub returns-clause-observed : goal.returns-clause-observed
returns-clause-observed c = record {
  call_states = λ p below. ap (λ (l : List CallState). slice_get l p) c.loop-process.invariant ∙ at_rest-there c.loop-process.process p (omega (arith, below, c.loop-process-test.false));
  entries = refl;
}

pub invariant_of-result : goal.invariant_of-result
invariant_of-result c =
    let all : c.loop-process.process ≡ c.args.setup.now.processes = omega (arith, c.loop-process-test.false, c.loop-process.auto.process-end) in
    record {
      good = c.requires;
      processes = ap (λ (l : List CallState). length l) c.loop-process.invariant ∙ length-map-range_with_len at_rest 0 c.loop-process.process ∙ all;
    }
