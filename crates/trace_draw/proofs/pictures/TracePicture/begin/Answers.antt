use Rattle.std.proofs.Common.{[]}
use Rattle.trace_draw.proofs.Shown.{shown_count, shown_first}
use Rattle.trace_draw.proofs.pictures.TracePicture.begin.Goals as goal

pub returns-clause-shown : goal.returns-clause-shown
returns-clause-shown g c =
    shown_first c.args.view (g.W.Sink.taken c.args.output.now) c.args.setup.now (record { reporter = c.in_ok-reporter.reporter; entries = c.in_ok-entries.entries }) (g.W.Sink.taken c.begin.new.output)
    c.in_ok-reporter.ensures c.in_ok-entries.ensures.shown

pub returns-clause-count : goal.returns-clause-count
returns-clause-count g c =
    shown_count c.args.view (g.W.Sink.taken c.args.output.now) (record { reporter = c.in_ok-reporter.reporter; entries = c.in_ok-entries.entries }, g.W.Sink.taken c.begin.new.output) c.args.setup.now [] [] (returns-clause-shown g c)
