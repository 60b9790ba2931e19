use Rattle.std.proofs.Common.{◌≡◌, ◌-◌, ◌^◌}
use Rattle.scenario.specs.files.{EndHolds, coming}
use Rattle.draw.proofs.RecordEnds.{Onwards}
use Rattle.draw.proofs.records.engines.draw_lines.Given as goal

-- Reading the rest leads to what reading the whole input gives, and each entry so far was drawn. A source that has reported its end
-- is at its end, and no call has failed.
abbrev pub invariant-lines : goal.invariant-lines
invariant-lines g l = record {
  onwards : Onwards (g.R.Source.to_come l.fn.input) (coming l.lines.ahead (g.R.Source.to_come l.input)) l.lines.taken l.sheet (g.W.Sink.taken l.fn.output) (g.W.Sink.taken l.output);
  holds : EndHolds l.lines.ahead (g.R.Source.to_come l.input);
  form : l.sheet.form ≡ l.fn.sheet.form;
  options : l.sheet.options ≡ l.fn.sheet.options;
  whole : g.R.Source.failures l.input ≡ g.R.Source.failures l.fn.input;
  wrote : g.W.Sink.failures l.output ≡ g.W.Sink.failures l.fn.output;
}

abbrev pub decreases-lines : goal.decreases-lines
decreases-lines g l = 2 ^ 64 - l.lines.taken
