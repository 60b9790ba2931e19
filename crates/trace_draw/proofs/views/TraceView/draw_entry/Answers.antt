use Rattle.std.proofs.Common.{Option, subst}
use Rattle.trace_engine.specs.{Observes}
use Rattle.trace_draw.specs.{HasShown, TracePicture, with_output}
use Rattle.trace_draw.proofs.Ends.{begun_with}
use Rattle.draw.proofs.Written.{ok_then}
use Rattle.trace_draw.proofs.views.TraceView.draw_entry.Goals as goal

pub returns-in-Some-clause-drawn : goal.returns-in-Some-clause-drawn
returns-in-Some-clause-drawn g c =
    let around = c.args.self in
    let s = c.args.setup.now in
    let a = g.W.Sink.taken c.args.output.now in
    ok_then c.take.result
    (λ on first entries numbers nothing observed.
    on first entries numbers (subst (λ (o : Option TracePicture). Observes (HasShown around first) (with_output a o) s entries numbers) c.in-Some.is observed))
    c.take.ensures.shown

pub returns-in_ok-begin_with-in-None-clause-drawn : goal.returns-in_ok-begin_with-in-None-clause-drawn
returns-in_ok-begin_with-in-None-clause-drawn g c = λ first entries numbers nothing observed.
    begun_with c.args.self c.args.picture.now c.in_ok-begin_with-in-None.field-0 c.args.setup.now c.args.entry.now c.args.number (g.W.Sink.taken c.args.output.now) (g.W.Sink.taken c.begin_with.new.output) c.in-None.is c.in_ok-begin_with-in-None.ensures.shown first entries numbers nothing observed
