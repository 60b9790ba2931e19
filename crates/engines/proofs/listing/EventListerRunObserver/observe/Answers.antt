use Rattle.engines.proofs.Listed.{reported_listed}
use Rattle.engines.proofs.listing.EventListerRunObserver.observe.Goals as goal

pub returns-clause-observed : goal.returns-clause-observed
returns-clause-observed c = λ s before this happens. reported_listed s before this c.args.reported.now _ _ happens c.in_ok-list.ensures
