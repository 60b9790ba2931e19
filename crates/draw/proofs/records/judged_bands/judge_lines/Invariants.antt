use Rattle.std.proofs.Common.{◌≡◌, ◌-◌, ◌^◌}
use Rattle.scenario.specs.files.{EndHolds, coming}
use Rattle.draw.proofs.JudgedFile.{Judged}
use Rattle.draw.proofs.records.judged_bands.judge_lines.Given as goal

-- The judge has observed each entry so far, and each is drawn as far as it is shown. A source that has reported its end is at its end, and no call has failed.
abbrev pub invariant-lines : goal.invariant-lines
invariant-lines g l = record {
  judged : Judged g.H.EntryObserver.HasObserved g.H.Judging.Keeps g.H.Judging.finds_good (g.R.Source.to_come l.fn.input) (coming l.lines.ahead (g.R.Source.to_come l.input)) l.lines.taken l.trial.reader l.trial.observer l.shows l.sheet (g.W.Sink.taken l.fn.output) (g.W.Sink.taken l.output);
  holds : EndHolds l.lines.ahead (g.R.Source.to_come l.input);
  form : l.sheet.form ≡ l.fn.sheet.form;
  options : l.sheet.options ≡ l.fn.sheet.options;
  whole : g.R.Source.failures l.input ≡ g.R.Source.failures l.fn.input;
  wrote : g.W.Sink.failures l.output ≡ g.W.Sink.failures l.fn.output;
}

abbrev pub decreases-lines : goal.decreases-lines
decreases-lines g l = 2 ^ 64 - l.lines.taken
