use Rattle.std.proofs.Common.{List, subst}
use Rattle.record_accesses.specs.{entry_with, shown_access}
use Rattle.draw.specs.{DrawsOn, Gives, kept}
use Rattle.draw.proofs.AccessItems.{gives_none, gives_some}
use Rattle.draw.proofs.Drawn.{draws_on_none}
use Rattle.draw.proofs.Written.{ok_then}
use Rattle.draw.proofs.canvas.Canvas.draw_monitored.Goals as goal

pub returns-in-None-clause-drawn : goal.returns-in-None-clause-drawn
returns-in-None-clause-drawn g c = λ s limit past marks has is drop.
    let k = kept c.args.self.now in
    let a = g.W.Sink.taken c.args.output.now in
    let seen = c.in_ok-observe_access.ensures in (
      subst (λ (l : List Gives). DrawsOn k k a a l) (gives_none c.in_ok-observe_access.field-0 (shown_access s limit past (entry_with c.args.process c.args.access.now marks)) c.in-None.is (seen.shown s limit past marks has is drop)) (draws_on_none k a),
      seen.monitored s limit past marks has is drop,
    )

pub returns-in-Some-clause-drawn : goal.returns-in-Some-clause-drawn
returns-in-Some-clause-drawn g c =
    let k = kept c.args.self.now in
    let k' = kept c.draw_access.new.self in
    let a = g.W.Sink.taken c.args.output.now in
    let b = g.W.Sink.taken c.draw_access.new.output in
    let seen = c.in_ok-observe_access.ensures in
    ok_then c.draw_access.result
    (λ on s limit past marks has is drop. (
      subst (λ (l : List Gives). DrawsOn k k' a b l) (gives_some c.in_ok-observe_access.field-0 c.in-Some.shown (shown_access s limit past (entry_with c.args.process c.args.access.now marks)) c.in-Some.is (seen.shown s limit past marks has is drop)) on,
      seen.monitored s limit past marks has is drop,
    ))
    c.draw_access.ensures.drawn
