use Rattle.std.proofs.Common.{refl}
use Rattle.files.specs.Engines.{Streams, streams}
use Rattle.files.specs.declared.faults.Fault.TheVariants.{Memory}
use Rattle.trace_calls.specs.Tables.{ListerState}
use Rattle.trace_calls.proofs.EngineEnds.{ends_cut, ends_fault, ends_tabled}
use Rattle.trace_calls.proofs.engine.list_trace.Goals as goal

pub returns-in_err-lister : goal.returns-in_err-lister
returns-in_err-lister g c =
    ends_fault ListerState c.from_residual.result c.in_err-lister.field-0.0 _ _ c.from_residual.ensures.1 c.in_err-lister.ensures.fault refl c.in_err-lister.ensures.failures

pub returns-in_err-text : goal.returns-in_err-text
returns-in_err-text g c =
    ends_fault ListerState c.from_residual-in_err-text.result Memory _ _ c.from_residual-in_err-text.ensures.1 tt refl c.in_ok-lister.ensures.failures

pub returns-in_err-write_all : goal.returns-in_err-write_all
returns-in_err-write_all g c =
    let old : Streams = streams g.R.Source g.W.Sink c.args.input.now c.args.output.now in
    let new : Streams = streams g.R.Source g.W.Sink c.list_file.new.input c.write_all.new.output in
    ends_cut c.from_residual-in_err-write_all.result c.in_err-write_all.field-0.0 c.in_ok-lister.lister c.in_ok-text.text.items old new c.from_residual-in_err-write_all.ensures.1 c.in_err-write_all.ensures.fault
    c.in_ok-lister.ensures.listed c.in_ok-text.ensures c.in_err-write_all.ensures.failures (rw c.as_slice.ensures.value at c.in_err-write_all.ensures.front)

pub returns : goal.returns
returns g c =
    let old : Streams = streams g.R.Source g.W.Sink c.args.input.now c.args.output.now in
    let new : Streams = streams g.R.Source g.W.Sink c.list_file.new.input c.write_all.new.output in
    ends_tabled c.in_ok-lister.lister c.in_ok-text.text.items old new
    c.in_ok-lister.ensures.listed c.in_ok-text.ensures c.in_ok-lister.ensures.end (rw c.as_slice.ensures.value at c.in_ok-write_all.ensures.written)
