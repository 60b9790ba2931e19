use Rattle.std.proofs.Common.{List, subst}
use Rattle.draw.specs.{DrawsOn, Gives, kept}
use Rattle.draw.proofs.Drawn.{draws_on_none}
use Rattle.draw.proofs.Written.{ok_then}
use Rattle.trace_accesses.specs.{shown_access}
use Rattle.trace_draw.proofs.Monitoring.{gives_none, gives_some}
use Rattle.trace_draw.proofs.drawing.draw_monitored.Goals as goal

pub returns-in-None-clause-drawn : goal.returns-in-None-clause-drawn
returns-in-None-clause-drawn g c = λ s limit past has.
    let k = kept c.args.canvas.now in
    let a = g.W.Sink.taken c.args.output.now in
    subst (λ (l : List Gives). DrawsOn k k a a l) (gives_none c.in_ok-observe.field-0 (shown_access s limit past c.args.entry.now) c.in-None.is (c.in_ok-observe.ensures.shown s limit past has)) (draws_on_none k a)

pub returns-in-Some-clause-drawn : goal.returns-in-Some-clause-drawn
returns-in-Some-clause-drawn g c =
    let k = kept c.args.canvas.now in
    let k' = kept c.draw_access.new.self in
    let a = g.W.Sink.taken c.args.output.now in
    let b = g.W.Sink.taken c.draw_access.new.output in
    ok_then c.draw_access.result
    (λ on s limit past has. subst (λ (l : List Gives). DrawsOn k k' a b l) (gives_some c.in_ok-observe.field-0 c.in-Some.access (shown_access s limit past c.args.entry.now) c.in-Some.is (c.in_ok-observe.ensures.shown s limit past has)) on)
    c.draw_access.ensures.drawn
