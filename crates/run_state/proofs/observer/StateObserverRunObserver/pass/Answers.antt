use Rattle.std.proofs.Common.{arith, subst, sym, ◌∙◌}
use Rattle.plain_store.specs.{Setup}
use Rattle.calls.specs.scenario_run.{past_after}
use Rattle.run_state.specs.{Passes}
use Rattle.run_state.proofs.Seeing.{newest_within, passes_of}
use Rattle.run_state.proofs.observer.StateObserverRunObserver.pass.Goals as goal

pub returns-clause-observed : goal.returns-clause-observed
returns-clause-observed c = λ off s before after passed seen.
    let p = c.args.process in
    let n = c.args.steps in
    let most = seen.reported in
    let more = c.pass.ensures.count in
    let some = c.requires.nonzero in
    record {
      setup = c.pass.ensures.setup ∙ seen.setup;
      observed = c.pass.ensures.observed p (past_after s before) (past_after s after) (subst (λ (s' : Setup). Passes s' p n (past_after s before) (past_after s after)) (sym seen.setup) (passes_of s p n before after passed.within)) seen.observed;
      reported = omega (arith, most, more);
      newest_is = λ same. absurd (omega (arith, most, more, some, same));
      passed = λ fewer. newest_within s p n before after some passed.within;
    }
