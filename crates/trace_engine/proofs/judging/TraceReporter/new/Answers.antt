use Rattle.std.proofs.Common.{refl}
use Rattle.trace_engine.specs.{ReporterState}
use Rattle.trace_engine.proofs.Explained.{reported_first}
use Rattle.trace_engine.proofs.judging.TraceReporter.new.Goals as goal

pub returns : goal.returns
returns c =
    let t : ReporterState = record { judge = c.in_ok-new.field-0; why = c.args.why; lines = c.new-2.result.items } in
    reported_first c.args.why t c.args.setup.now refl c.new-2.ensures.items c.in_ok-new.ensures
