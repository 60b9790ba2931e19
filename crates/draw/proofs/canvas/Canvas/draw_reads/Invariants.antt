use Rattle.std.proofs.Common.{◌≡◌, map, take}
use Rattle.draw.specs.{DrawsOn, GivesRead, kept}
use Rattle.draw.proofs.canvas.Canvas.draw_reads.Given as goal

-- the reads before the present one are drawn, which are no lines
abbrev pub invariant-loop-read : goal.invariant-loop-read
invariant-loop-read g l = record {
  drawn : DrawsOn (kept l.fn.self) (kept l.self) (g.W.Sink.taken l.fn.output) (g.W.Sink.taken l.output) (map GivesRead (take l.read-index l.read-items));
  overlaps : l.self.overlaps ≡ l.initial.self.overlaps;
  whole : g.W.Sink.failures l.output ≡ g.W.Sink.failures l.fn.output;
}
