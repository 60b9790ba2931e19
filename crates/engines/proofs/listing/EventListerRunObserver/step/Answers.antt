use Rattle.engines.proofs.Listed.{step_listed}
use Rattle.engines.proofs.listing.EventListerRunObserver.step.Goals as goal

pub returns-clause-observed : goal.returns-clause-observed
returns-clause-observed c = λ s before on. step_listed s before c.args.made _ _ on c.in_ok-add.ensures
