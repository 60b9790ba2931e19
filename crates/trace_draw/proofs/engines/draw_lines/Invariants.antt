use Rattle.std.proofs.Common.{◌≡◌, ◌-◌, ◌^◌}
use Rattle.files.specs.{EndHolds, coming}
use Rattle.trace_draw.proofs.Ends.{DrawnUpTo}
use Rattle.trace_draw.proofs.engines.draw_lines.Given as goal

-- reading what is left goes on to what reading all gives, each entry so far was judged and drawn, a source that has reported its
-- end is at it, and no call has failed
abbrev pub invariant-lines : goal.invariant-lines
invariant-lines g l = record {
  drawn : DrawnUpTo l.fn.sheet.view (g.R.Source.to_come l.fn.input) (coming l.lines.ahead (g.R.Source.to_come l.input)) l.lines.taken l.sheet.reader l.sheet.picture (g.W.Sink.taken l.fn.output) (g.W.Sink.taken l.output);
  holds : EndHolds l.lines.ahead (g.R.Source.to_come l.input);
  view : l.sheet.view ≡ l.fn.sheet.view;
  whole : g.R.Source.failures l.input ≡ g.R.Source.failures l.fn.input;
  wrote : g.W.Sink.failures l.output ≡ g.W.Sink.failures l.fn.output;
}

abbrev pub decreases-lines : goal.decreases-lines
decreases-lines g l = 2 ^ 64 - l.lines.taken
