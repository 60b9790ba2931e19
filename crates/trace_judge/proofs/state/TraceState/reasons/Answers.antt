use Rattle.std.proofs.Common.{refl}
use Rattle.trace.specs.{TraceEntry, trace_entry}
use Rattle.trace_judge.proofs.state.TraceState.reasons.Goals as goal

pub returns : goal.returns
returns c = λ past seen broken.
    let e : TraceEntry = trace_entry c.args.process c.args.access.now c.args.marks.now in
    record {
      may = c.mays.ensures past seen broken;
      refused = c.refused.ensures past seen;
      stage = c.stage.ensures past seen;
      opened = c.opened_at.ensures past seen;
      inside = c.inside.ensures e refl past seen;
      waits = c.waits.ensures e refl past seen broken;
      doorway = c.doorway.ensures e refl refl past seen broken;
    }
