use Rattle.std.proofs.Common.{◌∙◌, ap, subst, sym}
use Rattle.scenario_run.proofs.Endings.{if_err, ok_with}
use Rattle.scenario_run.proofs.Written.{ok_then}
use Rattle.scenario_run.specs.{CanCount, run_after}
use Rattle.draw.specs.{HasDrawnRun, RunDrawing, kept, parts_of, tally}
use Rattle.draw.proofs.RunEnds.{failures_by}
use Rattle.draw.proofs.Turning.{run_none}
use Rattle.draw.proofs.runs.drawing.observing.draw_line.Goals as goal

pub returns-clause-drawn : goal.returns-clause-drawn
returns-clause-drawn g c = ok_then c.play.result (λ plays view run follows counts recalls.
    let s = c.args.scenario_run.now.world.setup in
    let old = c.args.run.now in
    let taken = g.W.Sink.taken c.args.output.now in
    let played = plays run follows in
    let after = (run_after s c.args.line.now run).happened in
    record {
      follows = played.follows;
      setup = played.setup;
      drawn = subst (λ w. HasDrawnRun view s (parts_of s run.happened) (kept old.drawing.canvas) taken after c.run-1.given.0 (g.W.Sink.taken w)) (sym (c.output-1.given.1 (sym played.observes.0)))
          (subst (λ (d : RunDrawing). HasDrawnRun view s (parts_of s run.happened) (kept old.drawing.canvas) taken after d (g.W.Sink.taken c.play.new.observer.output.now)) (sym (c.run-1.given.1 (sym played.observes.1)))
          (played.observes.4 view (parts_of s run.happened) (kept old.drawing.canvas) taken (run_none view s run.happened old taken counts recalls)));
    }) c.play.ensures.observed

pub returns-clause-source : goal.returns-clause-source
returns-clause-source g c =
    let (run, follows) = c.play.ensures.runs in
    ok_then c.play.result (λ plays. ap (λ (d : RunDrawing). d.drawing.source) (c.run-1.given.1 (sym (plays run follows).observes.1)) ∙ (plays run follows).observes.2) c.play.ensures.observed

pub returns-clause-room : goal.returns-clause-room
returns-clause-room g c =
    let (run, follows) = c.play.ensures.runs in
    ok_then c.play.result (λ both more has. subst (λ (d : RunDrawing). CanCount (tally d) more) (sym (c.run-1.given.1 (sym (both.0 run follows).observes.1))) (both.1 more (has, c.requires.writes)).0) (ok_with c.play.result _ _ c.play.ensures.observed c.play.ensures.room)

pub returns-clause-fails : goal.returns-clause-fails
returns-clause-fails g c =
    let (run, follows) = c.play.ensures.runs in
    record {
      fault = if_err c.play.result (λ fault cut. (cut run follows).1) c.play.ensures.cut;
      counted =
          failures_by c.play.result (g.W.Sink.failures c.args.output.now) (g.W.Sink.failures c.output-1.given.0)
          (ok_then c.play.result (λ plays. ap g.W.Sink.failures (c.output-1.given.1 (sym (plays run follows).observes.0)) ∙ (plays run follows).observes.3) c.play.ensures.observed)
          (if_err c.play.result (λ fault cut. ap g.W.Sink.failures (c.output-1.given.1 (sym (cut run follows).0)) ∙ (cut run follows).2) c.play.ensures.cut);
    }
