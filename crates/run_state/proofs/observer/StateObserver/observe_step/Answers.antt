use Rattle.std.proofs.Common.{◌<◌, Option, Some, ℕ, ap, arith, refl, sym, subst, ◌∙◌}
use Rattle.std.specs.Option.{unwrap_or}
use Rattle.plain_store.specs.{Setup}
use Rattle.model.specs.{Entry, Past}
use Rattle.calls.specs.scenario_run.{past_after}
use Rattle.run_state.specs.{HasSeen, StateObserver, ReportsNumber, unmarked_entry}
use Rattle.calls.proofs.UnmarkedSteps.{steps_below}
use Rattle.run_state.proofs.Seeing.{step_past, reports_number}
use Rattle.run_state.proofs.observer.StateObserver.observe_step.Goals as goal

pub returns-clause-observed : goal.returns-clause-observed
returns-clause-observed c = λ s before on seen.
    let made = c.args.made in
    let all = c.entries-self.ensures in
    let number = c.unwrap_or-number.result in
    let past : Past = past_after s before in
    let e : Entry = unmarked_entry made.process (Some made.access) in
    let new : StateObserver = record c.args.self.now { observed_run = c.step.new.self; stepped = Some made.access; process = made.process; reported = c.entries-self.result } in
    subst (λ past. HasSeen s past new) (sym (step_past s before made on)) (record {
      setup = c.step.ensures.setup ∙ seen.setup;
      observed = c.step.ensures.observed past e refl refl refl (subst (λ (s : Setup). ReportsNumber s past made.process made.access number) (sym seen.setup) (reports_number s before made number (λ m is. c.unwrap_or-number.ensures ∙ ap (λ (o : Option ℕ). unwrap_or o 0) is) on))
          (subst (λ (s : Setup). made.process < s.processes) (sym seen.setup) (steps_below s before made on)) seen.observed;
      reported = omega (arith, all);
      newest_is = λ same. refl;
      passed = λ fewer. absurd (omega (arith, all, fewer));
    })
