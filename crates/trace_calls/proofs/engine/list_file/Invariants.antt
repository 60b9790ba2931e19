use Rattle.std.proofs.Common.{◌≡◌, ◌-◌, ◌^◌}
use Rattle.files.specs.{EndHolds, coming}
use Rattle.trace_engine.proofs.Ends.{Onwards}
use Rattle.trace_calls.specs.Tables.{HasTabled}
use Rattle.trace_calls.proofs.engine.list_file.Given as goal

-- reading what is left goes on to what reading all gives, each entry so far was listed, a source that has reported its
-- end is at it, and no call has failed
abbrev pub invariant-lines : goal.invariant-lines
invariant-lines g l = record {
  onwards : Onwards HasTabled (g.R.Source.to_come l.fn.input) (coming l.lines.ahead (g.R.Source.to_come l.input)) l.lines.taken l.listing.reader l.listing.lister;
  holds : EndHolds l.lines.ahead (g.R.Source.to_come l.input);
  whole : g.R.Source.failures l.input ≡ g.R.Source.failures l.fn.input;
}

abbrev pub decreases-lines : goal.decreases-lines
decreases-lines g l = 2 ^ 64 - l.lines.taken
