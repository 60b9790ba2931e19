use Rattle.std.proofs.Common.{arith}
use Rattle.scenario_run.proofs.Fronts.{line_whole}
use Rattle.scenario_run.proofs.turns.ScenarioRun.play.Goals as goal

pub returns-clause-observed : goal.returns-clause-observed
returns-clause-observed g c = λ run follows.
    line_whole g.L.RunObserver.Observes c.args.self.now.world.setup c.args.line.now _ run c.play_part.new.self c.args.observer.now c.play_part.new.observer (omega (arith, c.play_part.ensures.bounded)) (c.in_ok-play_part.ensures.plays run follows)
