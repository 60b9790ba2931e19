use Rattle.std.proofs.Common.{Option, subst}
use Rattle.draw.proofs.Written.{if_ok_then}
use Rattle.trace_engine.specs.{Observes}
use Rattle.trace_draw.specs.{HasShown, TracePicture, with_output}
use Rattle.trace_draw.proofs.Ends.{begun_first}
use Rattle.trace_draw.proofs.views.TraceView.draw_end.Goals as goal

pub returns-in-Some-clause-drawn : goal.returns-in-Some-clause-drawn
returns-in-Some-clause-drawn g c =
    let around = c.args.self in
    let a = g.W.Sink.taken c.args.output.now in
    if_ok_then c.end.result
    (λ d drawn first entries numbers nothing observed.
    drawn first entries numbers (subst (λ (o : Option TracePicture). Observes (HasShown around first) (with_output a o) c.args.setup.now entries numbers) c.in-Some.is observed))
    c.end.ensures.drawn

pub returns-in_ok-begun-in-None-clause-drawn : goal.returns-in_ok-begun-in-None-clause-drawn
returns-in_ok-begun-in-None-clause-drawn g c =
    let around = c.args.self in
    let a = g.W.Sink.taken c.args.output.now in
    if_ok_then c.end-in-None.result
    (λ d drawn first entries numbers nothing observed.
    drawn first entries numbers (begun_first around c.args.picture.now c.in_ok-begun-in-None.begun c.args.setup.now a (g.W.Sink.taken c.begin.new.output) c.in-None.is c.in_ok-begun-in-None.ensures.shown first entries numbers nothing observed))
    c.end-in-None.ensures.drawn
