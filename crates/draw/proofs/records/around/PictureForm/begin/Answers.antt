use Rattle.draw.proofs.Sheeted.{drawn_first}
use Rattle.draw.proofs.records.around.PictureForm.begin.Goals as goal

pub returns-clause-drawn : goal.returns-clause-drawn
returns-clause-drawn g c =
    let begun = c.in_ok-drawing.ensures in
    drawn_first c.args.view c.args.self.form c.args.setup.now c.in_ok-drawing.drawing (g.W.Sink.taken c.args.output.now) (g.W.Sink.taken c.write_head.new.output)
    begun.source begun.recalls begun.first c.in_ok-write_head.ensures.heads
