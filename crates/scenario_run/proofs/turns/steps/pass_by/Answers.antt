use Rattle.std.proofs.Common.{◌+◌, ◌-◌, ◌<◌, ◌≤◌, ◌∙◌, arith, refl, subst, sym}
use Rattle.world.specs.{remaining_in}
use Rattle.world.specs.choices.{FlickState}
use Rattle.scenario_run.specs.{IsAlone, PassBy, scenario_run}
use Rattle.scenario_run.proofs.Alone.{alone_pass, walks_setup}
use Rattle.scenario_run.proofs.Runnings.{comes_start}
use Rattle.scenario_run.proofs.turns.steps.pass_by.Goals as goal

pub returns-then-observes_steps-clause-on : goal.returns-then-observes_steps-clause-on
returns-then-observes_steps-clause-on g c = λ l run follows next.
    let here = scenario_run c.args.world.now c.args.flicks.now c.args.remaining.now in
    comes_start g.L.RunObserver.Observes l run here here c.args.observer.now (IsAlone c.args.process c.args.floor) (g.met.L.RunObserver.observes_nothing c.args.observer.now c.args.world.now.setup run.happened) refl follows next

pub returns-then-within-eq0-clause-on : goal.returns-then-within-eq0-clause-on
returns-then-within-eq0-clause-on g c = λ l run follows next.
    let here = scenario_run c.args.world.now c.args.flicks.now c.args.remaining.now in
    comes_start g.L.RunObserver.Observes l run here here c.args.observer.now (IsAlone c.args.process c.args.floor) (g.met.L.RunObserver.observes_nothing c.args.observer.now c.args.world.now.setup run.happened) refl follows next

pub returns-clause-setup : goal.returns-clause-setup
returns-clause-setup g c = walks_setup c.min-within.result c.run-made.result.newest c.run-made.result.overlapped c.args.world.now c.run-made.new.self c.args.flicks.now c.run-made.new.flicks c.args.process c.run-made.ensures.runs

pub returns-clause-on : goal.returns-clause-on
returns-clause-on g c = λ l run follows next.
    let made = c.run-made in
    let some : 0 < c.min-within.result = omega (arith, c.if-within-eq0.false) in
    let left : c.min-within.result ≤ remaining_in c.args.world.now.seats c.args.process = omega (arith, c.min-within.ensures, c.remaining.ensures) in
    alone_pass g.L.RunObserver.Observes c.min-within.result c.args.world.now made.new.self c.args.flicks.now made.new.flicks made.result.newest made.result.overlapped l c.args.remaining.now c.args.process c.args.floor run c.args.observer.now c.pass.new.self
    (omega (arith, c.requires.floor, c.min-within.ensures)) some left made.ensures.runs
    (λ s before after by. c.pass.ensures.observed (sym c.observes_steps.ensures ∙ c.if-observes_steps.false) s before after
    (subst (λ (f : FlickState). PassBy s c.args.process f c.min-within.result made.result.newest made.result.overlapped before after) (sym c.twin-before.ensures) by)) follows next

pub returns-clause-room : goal.returns-clause-room
returns-clause-room g c = λ more room.
    let remaining = c.args.remaining.now - c.min-within.result in
    c.pass.ensures.room (more + remaining) (g.met.L.RunObserver.room_less c.args.observer.now (more + remaining + c.min-within.result) (more + c.args.remaining.now) (omega (arith, c.requires.floor, c.min-within.ensures)) room)
