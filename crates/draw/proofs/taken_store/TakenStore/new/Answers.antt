use Rattle.std.proofs.Common.{◌≡◌, List, [], ◌∷◌, ◌++◌, ◌∙◌, ap, get_or, length, refl, arith}
use Rattle.std.proofs.lemmas.List.{get_or-replicate, length-replicate, replicate-append-replicate}
use Rattle.draw.specs.{LastCall, no_call}
use Rattle.draw.proofs.taken_store.TakenStore.new.Goals as goal

pub returns : goal.returns
returns c =
    let all : c.loop-process._process ≡ c.args.setup.now.processes = omega (arith, c.loop-process.invariant.within, c.loop-process-test.false) in
    record {
      version = refl;
      many = ap length c.loop-process.invariant.calls ∙ length-replicate c.loop-process._process no_call ∙ all;
      store = c.in_ok-opened.ensures;
      taken = refl;
      calls = λ p below. ap (λ (l : List LastCall). get_or l p no_call) c.loop-process.invariant.calls ∙ get_or-replicate c.loop-process._process p no_call no_call (omega (arith, below, all));
    }

pub loop-process-preserved : goal.loop-process-preserved
loop-process-preserved c = record {
  calls = c.in_ok-push.ensures.items ∙ ap (λ (l : List LastCall). l ++ no_call ∷ []) c.loop-process.invariant.calls ∙ replicate-append-replicate c.loop-process._process 1 no_call;
  within = omega (arith, c.loop-process-test.true);
}
