use Rattle.std.proofs.Common.{◌≡◌, reverse, take}
use Rattle.trace_draw.specs.{IsDrawn}
use Rattle.trace_draw.proofs.held.draw_held.Given as goal

-- the entries before the present one are drawn
abbrev pub invariant-loop-entry : goal.invariant-loop-entry
invariant-loop-entry g l = record {
  drawn : IsDrawn l.fn.view.form l.fn.view.options l.fn.shows l.fn.setup (reverse (take l.entry-index l.fn.held)) l.drawing (g.W.Sink.taken l.fn.output) (g.W.Sink.taken l.output);
  whole : g.W.Sink.failures l.output ≡ g.W.Sink.failures l.fn.output;
}
