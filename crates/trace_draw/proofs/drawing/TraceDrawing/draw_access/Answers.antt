use Rattle.std.proofs.Common.{List, ◌∷◌, Option, Some, subst, sym}
use Rattle.draw.specs.{DrawsOn, Gives, kept}
use Rattle.draw.proofs.Drawn.{draws_on_none}
use Rattle.draw.proofs.Written.{ok_then}
use Rattle.picture.specs.declared.reads.Reads.{Reads}
use Rattle.trace_accesses.specs.{MonitorState}
use Rattle.trace_draw.specs.{Monitors, given_access_of}
use Rattle.trace_draw.proofs.Monitoring.{all_shown, none_later, none_shown}
use Rattle.trace_draw.proofs.drawing.TraceDrawing.draw_access.Goals as goal

pub returns-in-None-clause-drawn : goal.returns-in-None-clause-drawn
returns-in-None-clause-drawn g c = λ mode limit s past monitors.
    let k = kept c.args.self.now.canvas in
    let a = g.W.Sink.taken c.args.output.now in
    subst (λ (l : List Gives). DrawsOn k k a a l) (sym (none_shown mode limit s past c.args.entry.now (subst (Monitors mode limit s past) c.in-None.is monitors))) (draws_on_none k a)

pub returns-in-None-clause-monitors : goal.returns-in-None-clause-monitors
returns-in-None-clause-monitors g c = λ mode limit s past monitors.
    subst (λ (o : Option MonitorState). Monitors mode limit s (c.args.entry.now ∷ past) o) (sym c.in-None.is) (none_later mode limit s past c.args.entry.now (subst (Monitors mode limit s past) c.in-None.is monitors))

pub returns-in-Some-clause-drawn : goal.returns-in-Some-clause-drawn
returns-in-Some-clause-drawn g c =
    let old = c.args.self.now in
    let a = g.W.Sink.taken c.args.output.now in
    let b = g.W.Sink.taken c.draw_monitored.new.output in
    ok_then c.draw_monitored.result
    (λ on mode limit s past monitors.
    let all = all_shown mode limit s past c.in-Some.monitor (subst (Monitors mode limit s past) c.in-Some.is monitors) in
    subst (λ (r : Reads). DrawsOn (kept old.canvas) (kept c.draw_monitored.new.canvas) a b (given_access_of r limit s past c.args.entry.now)) (sym all.0) (on s limit past all.1))
    c.draw_monitored.ensures.drawn

pub returns-in-Some-clause-monitors : goal.returns-in-Some-clause-monitors
returns-in-Some-clause-monitors g c = λ mode limit s past monitors.
    let all = all_shown mode limit s past c.in-Some.monitor (subst (Monitors mode limit s past) c.in-Some.is monitors) in
    subst (λ (r : Reads). Monitors r limit s (c.args.entry.now ∷ past) (Some c.draw_monitored.new.monitor)) (sym all.0) (c.draw_monitored.ensures.monitored s limit past all.1)
