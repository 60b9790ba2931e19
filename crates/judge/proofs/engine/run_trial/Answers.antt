use Rattle.std.proofs.Common.{refl}
use Rattle.files.specs.Engines.{Streams, streams}
use Rattle.files.specs.declared.faults.Fault.TheVariants.{Memory}
use Rattle.judge.specs.{HasObservedFirsts, ReportsFirsts}
use Rattle.judge.proofs.EngineEnds.{trial_cut, trial_fault, trial_reported}
use Rattle.judge.proofs.Firsts.{reports_firsts}
use Rattle.judge.proofs.engine.run_trial.Goals as goal

pub returns-in_err-observer : goal.returns-in_err-observer
returns-in_err-observer g c =
    trial_fault (HasObservedFirsts c.args.limit g.H.EntryObserver.HasObserved) (ReportsFirsts c.args.limit g.H.EntryObserver.Reports) g.row.H.Denot c.from_residual.result c.in_err-observer.field-0.0 _ _ c.from_residual.ensures.1 c.in_err-observer.ensures.fault refl c.in_err-observer.ensures.failures

pub returns-in_err-reporting : goal.returns-in_err-reporting
returns-in_err-reporting g c =
    trial_fault (HasObservedFirsts c.args.limit g.H.EntryObserver.HasObserved) (ReportsFirsts c.args.limit g.H.EntryObserver.Reports) g.row.H.Denot c.from_residual-in_err-reporting.result Memory _ _ c.from_residual-in_err-reporting.ensures.1 tt refl c.in_ok-observer.ensures.failures

pub returns-in_err-write_all : goal.returns-in_err-write_all
returns-in_err-write_all g c =
    let old : Streams = streams g.R.Source g.W.Sink c.args.input.now c.args.output.now in
    let new : Streams = streams g.R.Source g.W.Sink c.observe_file.new.input c.write_all.new.output in
    trial_cut (HasObservedFirsts c.args.limit g.H.EntryObserver.HasObserved) (ReportsFirsts c.args.limit g.H.EntryObserver.Reports) c.from_residual-in_err-write_all.result c.in_err-write_all.field-0.0 c.in_ok-observer.observer c.in_ok-reporting.reporting.text.items c.in_ok-reporting.reporting.status old new c.from_residual-in_err-write_all.ensures.1 c.in_err-write_all.ensures.fault
    c.in_ok-observer.ensures.observed (reports_firsts g.H.EntryObserver.HasObserved g.H.EntryObserver.Reports c.args.limit c.in_ok-observer.observer c.in_ok-reporting.reporting.text.items c.in_ok-reporting.reporting.status c.in_ok-reporting.ensures) c.in_err-write_all.ensures.failures (rw c.as_slice.ensures.value at c.in_err-write_all.ensures.front)

pub returns : goal.returns
returns g c =
    let old : Streams = streams g.R.Source g.W.Sink c.args.input.now c.args.output.now in
    let new : Streams = streams g.R.Source g.W.Sink c.observe_file.new.input c.write_all.new.output in
    trial_reported (HasObservedFirsts c.args.limit g.H.EntryObserver.HasObserved) (ReportsFirsts c.args.limit g.H.EntryObserver.Reports) c.in_ok-observer.observer c.in_ok-reporting.reporting.text.items c.in_ok-reporting.reporting.status old new
    c.in_ok-observer.ensures.observed (reports_firsts g.H.EntryObserver.HasObserved g.H.EntryObserver.Reports c.args.limit c.in_ok-observer.observer c.in_ok-reporting.reporting.text.items c.in_ok-reporting.reporting.status c.in_ok-reporting.ensures) c.in_ok-observer.ensures.end (rw c.as_slice.ensures.value at c.in_ok-write_all.ensures.written)
