use Rattle.std.proofs.Common.{◌≡◌, reverse, take}
use Rattle.draw.specs.{IsDrawn}
use Rattle.draw.proofs.records.stored.draw_stored.Given as goal

-- the entries before the present one are drawn
abbrev pub invariant-loop-entry : goal.invariant-loop-entry
invariant-loop-entry g l = record {
  drawn : IsDrawn l.fn.view l.fn.around.form l.fn.setup (reverse (take l.entry-index l.fn.stored)) l.drawing (g.W.Sink.taken l.fn.output) (g.W.Sink.taken l.output);
  whole : g.W.Sink.failures l.output ≡ g.W.Sink.failures l.fn.output;
}
