use Rattle.std.proofs.Common.{None, Option, subst}
use Rattle.judge.specs.Trials.{IsObserved}
use Rattle.draw.proofs.RecordEnds.{no_value}
use Rattle.draw.proofs.records.judged_bands.reporting_of.Goals as goal

pub returns-in_err-into_observer : goal.returns-in_err-into_observer
returns-in_err-into_observer g c = no_value _ _ _ c.from_residual.ensures.1

pub returns-in-None : goal.returns-in-None
returns-in-None g c = λ before entries numbers corresponds. subst (λ (h : Option g.row.H.Denot). IsObserved g.H.EntryObserver.HasObserved h before entries numbers) c.in-None.is (c.in_ok-into_observer.ensures None before entries numbers corresponds)

pub returns-in_err-report-in-Some : goal.returns-in_err-report-in-Some
returns-in_err-report-in-Some g c = no_value _ _ _ c.from_residual-in_err-report-in-Some.ensures.1

pub returns-in_ok-report-in-Some : goal.returns-in_ok-report-in-Some
returns-in_ok-report-in-Some g c = λ before entries numbers corresponds.
    let is = subst (λ (h : Option g.row.H.Denot). IsObserved g.H.EntryObserver.HasObserved h before entries numbers) c.in-Some.is (c.in_ok-into_observer.ensures None before entries numbers corresponds) in
    (is.0, is.1, c.in_ok-report-in-Some.ensures is.0.head.setup entries numbers is.2)
