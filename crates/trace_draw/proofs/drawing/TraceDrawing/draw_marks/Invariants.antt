use Rattle.std.proofs.Common.{◌≡◌, map, take}
use Rattle.draw.specs.{DrawsLines, SaysLockMark}
use Rattle.trace_draw.proofs.drawing.TraceDrawing.draw_marks.Given as goal

-- the marks before the present one are drawn
abbrev pub invariant-loop-mark : goal.invariant-loop-mark
invariant-loop-mark g l = record {
  drawn : DrawsLines l.fn.self.canvas l.self.canvas (g.W.Sink.taken l.fn.output) (g.W.Sink.taken l.output) l.fn.self.source l.fn.self.entries (map (SaysLockMark l.process) (take l.mark-index l.marks));
  rest : l.self ≡ record l.fn.self { canvas = l.self.canvas };
  whole : g.W.Sink.failures l.output ≡ g.W.Sink.failures l.fn.output;
}
