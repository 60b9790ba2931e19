use Rattle.std.proofs.Common.{[]}
use Rattle.trace_draw.proofs.views.TraceView.begin_with.Goals as goal

pub returns-clause-shown : goal.returns-clause-shown
returns-clause-shown g c =
    c.in_ok-take.ensures.shown (g.W.Sink.taken c.args.output.now) [] [] c.in_ok-picture.ensures.shown
