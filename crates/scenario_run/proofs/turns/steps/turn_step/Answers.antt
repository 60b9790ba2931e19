use Rattle.std.proofs.Common.{◌∙◌, ap, refl, subst, sym}
use Rattle.world.proofs.WorldWithin.{walks-one}
use Rattle.world.specs.choices.{flick_of}
use Rattle.scenario_run.specs.{ObservesStep, StopsBy}
use Rattle.scenario_run.proofs.Within.{within_observed, within_passed}
use Rattle.scenario_run.proofs.turns.steps.turn_step.Goals as goal

pub returns-clause-cut : goal.returns-clause-cut
returns-clause-cut g c =
    let r = c.run-made in
    let w = c.args.world.now in
    let flick = c.flick-flick.ensures.flick ∙ ap flick_of c.twin-before.ensures in
    let fault = c.in-Err.fault in
    let one = walks-one w r.new.self c.args.flicks.now r.new.flicks c.args.process c.flick-flick.result r.result.newest r.result.overlapped (sym flick) r.ensures.runs in
    subst (λ b. ObservesStep (StopsBy g.L.RunObserver.Stops fault) w c.args.process b r.new.self c.args.observer.now c.step-observed.new.self) flick
    (within_observed (StopsBy g.L.RunObserver.Stops fault) w r.new.self c.args.process c.flick-flick.result r.result.newest _ c.args.observer.now c.step-observed.new.self one.0 c.in-Err.ensures.cut)

pub returns-in_default-clause-observed : goal.returns-in_default-clause-observed
returns-in_default-clause-observed g c =
    let r = c.run-made in
    let w = c.args.world.now in
    let flick = c.flick-flick.ensures.flick ∙ ap flick_of c.twin-before.ensures in
    let Observes = g.L.RunObserver.Observes in
    let one = walks-one w r.new.self c.args.flicks.now r.new.flicks c.args.process c.flick-flick.result r.result.newest r.result.overlapped (sym flick) r.ensures.runs in
    rw c.requires.none (subst (λ b. ObservesStep Observes w c.args.process b r.new.self c.args.observer.now c.step-observed.new.self) flick
    (within_observed Observes w r.new.self c.args.process c.flick-flick.result r.result.newest _ c.args.observer.now c.step-observed.new.self one.0 c.in_default.ensures.observed))

pub returns-then-not-observes_steps-clause-observed : goal.returns-then-not-observes_steps-clause-observed
returns-then-not-observes_steps-clause-observed g c =
    let r = c.run-made in
    let w = c.args.world.now in
    let one = walks-one w r.new.self c.args.flicks.now r.new.flicks c.args.process (flick_of c.args.flicks.now) r.result.newest r.result.overlapped refl r.ensures.runs in
    rw c.requires.none (within_passed g.L.RunObserver.Observes w r.new.self c.args.process (flick_of c.args.flicks.now) r.result.newest _ c.args.observer.now c.pass.new.self one.0 c.twin-before.result (sym (ap flick_of c.twin-before.ensures)) r.result.overlapped one.1
    (c.pass.ensures.observed (sym c.observes_steps.ensures ∙ c.if-not-observes_steps.true)))
