use Rattle.std.proofs.Common.{◌≡◌, take}
use Rattle.draw.specs.{DrawsMarks}
use Rattle.draw.proofs.canvas.Canvas.draw_marks.Given as goal

-- the marks before the present one are drawn
abbrev pub invariant-loop-mark : goal.invariant-loop-mark
invariant-loop-mark g l = record {
  drawn : DrawsMarks l.fn.self l.self l.fn.store l.store (g.W.Sink.taken l.fn.output) (g.W.Sink.taken l.output) l.source l.at l.process (take l.mark-index l.marks);
  whole : g.W.Sink.failures l.output ≡ g.W.Sink.failures l.fn.output;
}
