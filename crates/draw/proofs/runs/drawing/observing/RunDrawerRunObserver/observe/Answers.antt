use Rattle.std.proofs.Common.{refl}
use Rattle.scenario_run.proofs.Endings.{ok_with}
use Rattle.draw.proofs.RunEnds.{err_whole, ok_whole}
use Rattle.draw.proofs.Turning.{reported_drawn}
use Rattle.draw.proofs.runs.drawing.observing.RunDrawerRunObserver.observe.Goals as goal

pub returns-clause-observed : goal.returns-clause-observed
returns-clause-observed g c =
    let old = c.args.self.now in
    let answer = c.args.reported.now in
    ok_whole c.draw_reported.result (g.W.Sink.failures old.output.now) (g.W.Sink.failures c.draw_reported.new.output) (λ both whole s before this happens. (
      refl,
      refl,
      c.draw_reported.ensures.source,
      whole,
      λ view start had from d. reported_drawn view s start had from before this answer old.run.now c.draw_reported.new.self _ _ happens both.0 both.1 c.draw_reported.ensures.source d,
    )) (ok_with c.draw_reported.result _ _ c.draw_reported.ensures.drawn c.draw_reported.ensures.count) c.draw_reported.ensures.fails.counted

pub returns-clause-cut : goal.returns-clause-cut
returns-clause-cut g c =
    let old = c.args.self.now in
    err_whole c.draw_reported.result _ (g.W.Sink.failures old.output.now) (g.W.Sink.failures c.draw_reported.new.output) (λ fault is fails s before this happens. (refl, is, fails)) c.draw_reported.ensures.fails.fault c.draw_reported.ensures.fails.counted
