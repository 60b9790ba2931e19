use Rattle.trace_draw.proofs.Drawn.{drawn_first}
use Rattle.trace_draw.proofs.held.begin_drawing.Goals as goal

pub returns-clause-drawn : goal.returns-clause-drawn
returns-clause-drawn g c =
    let drawing = c.in_ok-drawing.ensures in
    drawn_first c.args.view.form c.args.view.options c.args.shows c.args.setup.now c.in_ok-drawing.drawing (g.W.Sink.taken c.args.output.now) (g.W.Sink.taken c.write_head.new.output)
    drawing.kept drawing.after c.in_ok-write_head.ensures.heads
