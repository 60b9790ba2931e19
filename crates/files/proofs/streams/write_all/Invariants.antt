use Rattle.std.proofs.Common.{◌≡◌, ◌-◌, ◌≤◌, length, take}
use Rattle.std.specs.Io.KnownBytes.{Appends}
use Rattle.files.proofs.streams.write_all.Given as goal

-- the bytes before the position were taken, and no call has failed
abbrev pub invariant-loop-at : goal.invariant-loop-at
invariant-loop-at g l = record {
  taken : Appends (g.W.Sink.taken l.fn.output) (g.W.Sink.taken l.output) (take l.at l.bytes);
  within : l.at ≤ length l.bytes;
  whole : g.W.Sink.failures l.output ≡ g.W.Sink.failures l.fn.output;
}

abbrev pub decreases-loop-at : goal.decreases-loop-at
decreases-loop-at g l = length l.initial.bytes - l.at
