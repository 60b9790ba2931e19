use Rattle.engines.proofs.Sweepings.{swept_on, swept_same, reported_event, reported_nothing}
use Rattle.engines.proofs.sweeping.SweepObserverRunObserver.observe.Goals as goal

pub returns-in-Accepted-clause-observed : goal.returns-in-Accepted-clause-observed
returns-in-Accepted-clause-observed g c = λ s before this happens calls swept.
    swept_on s calls before this c.in-Accepted.made.event _ _ _ _ (reported_event s before this c.args.reported.now c.in-Accepted.made c.in-Accepted.is happens) c.go_on.ensures.calls c.go_on.ensures.swept swept

pub returns-in_default-clause-observed : goal.returns-in_default-clause-observed
returns-in_default-clause-observed g c = λ s before this happens calls swept.
    swept_same s calls before this _ _ (reported_nothing s before this c.args.reported.now c.in_default.not-Accepted happens) swept
