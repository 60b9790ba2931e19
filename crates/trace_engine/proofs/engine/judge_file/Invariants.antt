use Rattle.std.proofs.Common.{◌≡◌, ◌-◌, ◌^◌}
use Rattle.files.specs.{EndHolds, coming}
use Rattle.trace_engine.specs.{HasReported}
use Rattle.trace_engine.proofs.Ends.{Onwards}
use Rattle.trace_engine.proofs.engine.judge_file.Given as goal

-- reading the rest gives what reading the whole text gives, each entry so far was observed, a source that has reported its
-- end is at it, and no call has failed
abbrev pub invariant-lines : goal.invariant-lines
invariant-lines g l = record {
  why : l.trial.why ≡ l.why;
  onwards : Onwards (HasReported l.why) (g.R.Source.to_come l.fn.input) (coming l.lines.ahead (g.R.Source.to_come l.input)) l.lines.taken l.trial.reader l.trial.reporter;
  holds : EndHolds l.lines.ahead (g.R.Source.to_come l.input);
  whole : g.R.Source.failures l.input ≡ g.R.Source.failures l.fn.input;
}

abbrev pub decreases-lines : goal.decreases-lines
decreases-lines g l = 2 ^ 64 - l.lines.taken
