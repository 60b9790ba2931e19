use Rattle.std.proofs.Common.{length, refl}
use Rattle.scenario_run.specs.{ObservesStep, StopsBy}
use Rattle.scenario_run.proofs.Played.{on_fault}
use Rattle.scenario_run.proofs.StepsReported.{step_observed, step_reported}
use Rattle.scenario_run.proofs.turns.steps.any_step.Goals as goal

pub returns-in_default-clause-observed : goal.returns-in_default-clause-observed
returns-in_default-clause-observed g c =
    let w = c.args.world.now in
    let s = c.step-stepped in
    (step_reported w s.new.self c.args.process c.args.flick s.new.reported s.result s.ensures.accepted s.ensures.shows s.ensures.setup (length c.history.result.now) c.history.result.now c.reported_of.result (c.unmarked.ensures.none c.in_default.is) c.history.ensures refl s.ensures.refused s.ensures.unchanged s.ensures.overlapped c.reported_of.ensures, refl)

pub returns-clause-observed : goal.returns-clause-observed
returns-clause-observed g c =
    let s = c.step-stepped in
    step_observed c.args.world.now s.new.self c.args.process c.args.flick s.new.reported s.result s.ensures.accepted s.ensures.shows s.ensures.setup g.L.RunObserver.Observes c.in-Some.made c.number_read.result c.args.observer.now c.step.new.self c.in-Some.ensures.step.0 c.in-Some.ensures.step.1 s.ensures.main_theorem s.ensures.overlapped c.number_read.ensures
    c.in_ok-step.ensures.observed

pub returns-in_err-step-clause-cut : goal.returns-in_err-step-clause-cut
returns-in_err-step-clause-cut g c =
    let s = c.step-stepped in
    let fault = c.in_err-step.field-0.0 in
    on_fault c.from_residual.result fault (λ fault. ObservesStep (StopsBy g.L.RunObserver.Stops fault) c.args.world.now c.args.process c.args.flick s.new.self c.args.observer.now c.step.new.self) c.from_residual.ensures.1
    (step_observed c.args.world.now s.new.self c.args.process c.args.flick s.new.reported s.result s.ensures.accepted s.ensures.shows s.ensures.setup (StopsBy g.L.RunObserver.Stops fault) c.in-Some.made c.number_read.result c.args.observer.now c.step.new.self c.in-Some.ensures.step.0 c.in-Some.ensures.step.1 s.ensures.main_theorem s.ensures.overlapped c.number_read.ensures c.in_err-step.ensures.cut)
