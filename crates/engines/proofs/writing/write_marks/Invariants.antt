use Rattle.std.proofs.Common.{◌≡◌, flat_map, take}
use Rattle.std.specs.Io.KnownBytes.{Appends}
use Rattle.scenario_run.specs.{mark_line}
use Rattle.engines.proofs.writing.write_marks.Given as goal

-- the lines of the marks before the present one were written
abbrev pub invariant-loop-mark : goal.invariant-loop-mark
invariant-loop-mark g l = record {
  taken : Appends (g.W.Sink.taken l.fn.output) (g.W.Sink.taken l.output) (flat_map (mark_line l.event l.process) (take l.mark-index l.marks));
  whole : g.W.Sink.failures l.output ≡ g.W.Sink.failures l.fn.output;
}
