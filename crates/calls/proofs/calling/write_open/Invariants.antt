use Rattle.std.proofs.Common.{◌≡◌, ◌-◌, flat_map, length}
use Rattle.std.specs.Io.KnownBytes.{Appends}
use Rattle.std.specs.List.{range_with_len}
use Rattle.model.specs.{Past}
use Rattle.calls.specs.{HasObserved, line_of, open_call}
use Rattle.calls.proofs.calling.write_open.Given as goal

-- the lines of the calls of those below the present process were written
abbrev pub invariant-loop-process : goal.invariant-loop-process
invariant-loop-process g l = record {
  written : (past : Past) → HasObserved l.table past →
      Appends (g.W.Sink.taken l.fn.output) (g.W.Sink.taken l.output) (flat_map (λ p. line_of (length past - 1) (open_call l.fn.setup p past)) (range_with_len 0 l.process));
  whole : g.W.Sink.failures l.output ≡ g.W.Sink.failures l.fn.output;
}
