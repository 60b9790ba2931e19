use Rattle.std.proofs.Common.{refl}
use Rattle.scenario_run.specs.model.declared.events.Event.TheVariants.{Step}
use Rattle.scenario_run.specs.{Tries, reported_unmarked}
use Rattle.engines.proofs.Listed.{listed_more}
use Rattle.engines.proofs.Sweepings.{swept_on}
use Rattle.engines.proofs.sweeping.SweepObserverRunObserver.step.Goals as goal

pub returns-clause-observed : goal.returns-clause-observed
returns-clause-observed g c = λ s before on calls swept.
    let made = c.args.made in
    swept_on s calls before (Tries (Step made.process made.flick)) (Step made.process made.flick) _ _ _ _
    (listed_more s before (Tries (Step made.process made.flick)) (reported_unmarked made) (refl, on.adds, on.overlapped)) c.go_on.ensures.calls c.go_on.ensures.swept swept
