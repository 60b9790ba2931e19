use Rattle.std.proofs.Common.{subst, sym}
use Rattle.calls.specs.scenario_run.{TurnReport}
use Rattle.run_state.specs.{ObservesReported}
use Rattle.run_state.proofs.observer.StateObserver.observe_reported.Goals as goal

pub returns-in-Accepted-clause-observed : goal.returns-in-Accepted-clause-observed
returns-in-Accepted-clause-observed c = subst (λ (t : TurnReport). ObservesReported t c.args.self.now c.observe_event.new.self) (sym c.in-Accepted.is) c.observe_event.ensures.observed

pub returns-in-Refused-clause-observed : goal.returns-in-Refused-clause-observed
returns-in-Refused-clause-observed c = subst (λ (t : TurnReport). ObservesReported t c.args.self.now c.args.self.now) (sym c.in-Refused.is) (λ s past turn marked seen. seen)

pub returns-in-Tired-clause-observed : goal.returns-in-Tired-clause-observed
returns-in-Tired-clause-observed c = subst (λ (t : TurnReport). ObservesReported t c.args.self.now c.args.self.now) (sym c.in-Tired.is) (λ s past turn marked seen. seen)

pub returns-in-Shown-clause-observed : goal.returns-in-Shown-clause-observed
returns-in-Shown-clause-observed c = subst (λ (t : TurnReport). ObservesReported t c.args.self.now c.args.self.now) (sym c.in-Shown.is) (λ s past turn marked seen. seen)
