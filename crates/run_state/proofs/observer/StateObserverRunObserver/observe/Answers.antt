use Rattle.run_state.proofs.Seeing.{reported_seen}
use Rattle.run_state.proofs.observer.StateObserverRunObserver.observe.Goals as goal

pub returns-clause-observed : goal.returns-clause-observed
returns-clause-observed c = λ s before this happens seen. reported_seen s before this c.args.reported.now c.args.self.now c.observe_reported.new.self happens c.observe_reported.ensures.observed seen
