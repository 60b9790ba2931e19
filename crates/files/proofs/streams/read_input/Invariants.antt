use Rattle.std.proofs.Common.{◌≡◌, ◌-◌, ◌≤◌, length}
use Rattle.std.specs.Io.KnownBytes.{Consumes}
use Rattle.files.specs.{input_limit}
use Rattle.files.proofs.streams.read_input.Given as goal

-- the bytes so far came from the front, and no call has failed
abbrev pub invariant-loop-input : goal.invariant-loop-input
invariant-loop-input g l = record {
  front : Consumes (g.R.Source.to_come l.fn.input) (g.R.Source.to_come l.input) l.bytes.items;
  within : length l.bytes.items ≤ input_limit;
  whole : g.R.Source.failures l.input ≡ g.R.Source.failures l.fn.input;
}

abbrev pub decreases-loop-input : goal.decreases-loop-input
decreases-loop-input g l = input_limit - length l.bytes.items
