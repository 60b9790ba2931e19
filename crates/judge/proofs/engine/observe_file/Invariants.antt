use Rattle.std.proofs.Common.{◌≡◌, ◌-◌, ◌^◌}
use Rattle.files.specs.{EndHolds, coming}
use Rattle.judge.specs.{HasObservedFirsts}
use Rattle.judge.proofs.Ends.{Onwards}
use Rattle.judge.proofs.engine.observe_file.Given as goal

-- reading the rest gives what reading the whole text gives, each entry so far was observed, a source whose end was reported is
-- at it, and no call has failed
abbrev pub invariant-lines : goal.invariant-lines
invariant-lines g l = record {
  onwards : Onwards (HasObservedFirsts l.fn.limit g.H.EntryObserver.HasObserved) (g.R.Source.to_come l.fn.input) (coming l.lines.ahead (g.R.Source.to_come l.input)) l.lines.taken l.trial.reader l.trial.observer;
  holds : EndHolds l.lines.ahead (g.R.Source.to_come l.input);
  whole : g.R.Source.failures l.input ≡ g.R.Source.failures l.fn.input;
}

abbrev pub decreases-lines : goal.decreases-lines
decreases-lines g l = 2 ^ 64 - l.lines.taken
