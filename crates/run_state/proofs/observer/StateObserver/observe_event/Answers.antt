use Rattle.std.proofs.Common.{◌<◌, arith, refl, sym, subst, ◌∙◌}
use Rattle.plain_store.specs.{Setup}
use Rattle.model.specs.{Entry}
use Rattle.calls.specs.scenario_run.{entry_made}
use Rattle.run_state.proofs.observer.StateObserver.observe_event.Goals as goal

pub returns-clause-observed : goal.returns-clause-observed
returns-clause-observed c = λ s past turn marked seen.
    let e : Entry = entry_made c.args.made in
    let marks = sym (c.as_slice.ensures ∙ c.marks-marks.ensures) in
    let all = c.entries-self.ensures in
    record {
      setup = c.observe.ensures.setup ∙ seen.setup;
      observed = c.observe.ensures.observed past e (sym c.process.ensures) (sym c.is_some.ensures) marks (λ none. marked (sym (c.as_slice.ensures ∙ c.marks-marks.ensures) ∙ none)) (subst (λ (s : Setup). c.process.result < s.processes) (sym seen.setup) (subst (λ p. p < s.processes) (sym c.process.ensures) turn.process)) seen.observed;
      reported = omega (arith, all);
      newest_is = λ same. refl;
      passed = λ fewer. absurd (omega (arith, all, fewer));
    }
