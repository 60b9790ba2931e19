use Rattle.std.proofs.Common.{List, ◌∷◌, Option, Some, subst, sym}
use Rattle.picture.specs.declared.reads.Reads.{Reads as Mode}
use Rattle.model.specs.{Entry}
use Rattle.record_accesses.specs.{MonitorState, entry_with}
use Rattle.draw.specs.{DrawsOn, Gives, MonitorsAccesses, given_access_of, kept}
use Rattle.draw.proofs.AccessItems.{all_shown, none_later, none_shown}
use Rattle.draw.proofs.Drawn.{draws_on_none}
use Rattle.draw.proofs.Written.{ok_then}
use Rattle.draw.proofs.drawing.Drawing.draw_access.Goals as goal

pub returns-in-None-clause-drawn : goal.returns-in-None-clause-drawn
returns-in-None-clause-drawn g c = λ view s past marks counts drop monitors.
    let k = kept c.args.self.now.canvas in
    let a = g.W.Sink.taken c.args.output.now in
    let e : Entry = entry_with c.args.process c.args.access.now marks in
    let none = subst (MonitorsAccesses view.reads view.limit s past) c.in-None.is monitors in (
      subst (λ (l : List Gives). DrawsOn k k a a l) (sym (none_shown view.reads view.limit s past e none)) (draws_on_none k a),
      subst (λ (o : Option MonitorState). MonitorsAccesses view.reads view.limit s (e ∷ past) o) (sym c.in-None.is) (none_later view.reads view.limit s past (e ∷ past) none),
    )

pub returns-in-Some-clause-drawn : goal.returns-in-Some-clause-drawn
returns-in-Some-clause-drawn g c =
    let old = c.args.self.now in
    let a = g.W.Sink.taken c.args.output.now in
    let b = g.W.Sink.taken c.draw_monitored.new.output in
    ok_then c.draw_monitored.result
    (λ on view s past marks counts drop monitors.
    let e : Entry = entry_with c.args.process c.args.access.now marks in
    let all = all_shown view.reads view.limit s past c.in-Some.monitor (subst (MonitorsAccesses view.reads view.limit s past) c.in-Some.is monitors) in
    let both = on s view.limit past marks all.1 counts drop in (
      subst (λ (m : Mode). DrawsOn (kept old.canvas) (kept c.draw_monitored.new.self) a b (given_access_of m view.limit s past e)) (sym all.0) both.0,
      subst (λ (m : Mode). MonitorsAccesses m view.limit s (e ∷ past) (Some c.draw_monitored.new.monitor)) (sym all.0) both.1,
    ))
    c.draw_monitored.ensures.drawn
