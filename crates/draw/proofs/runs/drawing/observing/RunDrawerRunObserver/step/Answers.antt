use Rattle.std.proofs.Common.{refl}
use Rattle.scenario_run.proofs.Endings.{ok_with}
use Rattle.draw.proofs.RunEnds.{err_whole, ok_whole}
use Rattle.draw.proofs.Turning.{step_drawn}
use Rattle.draw.proofs.runs.drawing.observing.RunDrawerRunObserver.step.Goals as goal

pub returns-clause-observed : goal.returns-clause-observed
returns-clause-observed g c =
    let old = c.args.self.now in
    ok_whole c.step.result (g.W.Sink.failures old.output.now) (g.W.Sink.failures c.step.new.output) (λ both whole s before on. (
      refl,
      refl,
      c.step.ensures.source,
      whole,
      λ view start had from d. step_drawn view s start had from before c.args.made old.run.now c.step.new.self _ _ on c.step.ensures.source both.1 both.0 d,
    )) (ok_with c.step.result _ _ c.step.ensures.drawn c.step.ensures.entries) c.step.ensures.fails.counted

pub returns-clause-cut : goal.returns-clause-cut
returns-clause-cut g c =
    let old = c.args.self.now in
    err_whole c.step.result _ (g.W.Sink.failures old.output.now) (g.W.Sink.failures c.step.new.output) (λ fault is fails s before on. (refl, is, fails)) c.step.ensures.fails.fault c.step.ensures.fails.counted
