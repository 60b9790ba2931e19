use Rattle.engines.proofs.Sweepings.{reported_calls}
use Rattle.engines.proofs.sweeping.CallsRunObserver.observe.Goals as goal

pub returns-clause-observed : goal.returns-clause-observed
returns-clause-observed c = λ s before this happens. reported_calls s before this c.args.reported.now _ _ happens c.in_ok-keep_reported.ensures
