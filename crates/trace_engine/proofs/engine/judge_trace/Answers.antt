use Rattle.std.proofs.Common.{refl}
use Rattle.files.specs.Engines.{Streams, streams}
use Rattle.files.specs.declared.faults.Fault.TheVariants.{Memory}
use Rattle.trace_engine.specs.Reports.{ReporterState}
use Rattle.trace_engine.proofs.EngineEnds.{ends_cut, ends_fault, ends_reported}
use Rattle.trace_engine.proofs.engine.judge_trace.Goals as goal

pub returns-in_err-reporter : goal.returns-in_err-reporter
returns-in_err-reporter g c =
    ends_fault c.args.why ReporterState c.from_residual.result c.in_err-reporter.field-0.0 _ _ c.from_residual.ensures.1 c.in_err-reporter.ensures.fault refl c.in_err-reporter.ensures.failures

pub returns-in_err-report : goal.returns-in_err-report
returns-in_err-report g c =
    ends_fault c.args.why ReporterState c.from_residual-in_err-report.result Memory _ _ c.from_residual-in_err-report.ensures.1 tt refl c.in_ok-reporter.ensures.failures

pub returns-in_err-write_all : goal.returns-in_err-write_all
returns-in_err-write_all g c =
    let old : Streams = streams g.R.Source g.W.Sink c.args.input.now c.args.output.now in
    let new : Streams = streams g.R.Source g.W.Sink c.judge_file.new.input c.write_all.new.output in
    ends_cut c.args.why c.from_residual-in_err-write_all.result c.in_err-write_all.field-0.0 c.in_ok-reporter.reporter c.in_ok-report.report.text.items c.in_ok-report.report.status old new c.from_residual-in_err-write_all.ensures.1 c.in_err-write_all.ensures.fault
    c.in_ok-reporter.ensures.observed (c.in_ok-report.ensures c.args.why) c.in_err-write_all.ensures.failures (rw c.as_slice.ensures.value at c.in_err-write_all.ensures.front)

pub returns : goal.returns
returns g c =
    let old : Streams = streams g.R.Source g.W.Sink c.args.input.now c.args.output.now in
    let new : Streams = streams g.R.Source g.W.Sink c.judge_file.new.input c.write_all.new.output in
    ends_reported c.args.why c.in_ok-reporter.reporter c.in_ok-report.report.text.items c.in_ok-report.report.status old new
    c.in_ok-reporter.ensures.observed (c.in_ok-report.ensures c.args.why) c.in_ok-reporter.ensures.end (rw c.as_slice.ensures.value at c.in_ok-write_all.ensures.written)
