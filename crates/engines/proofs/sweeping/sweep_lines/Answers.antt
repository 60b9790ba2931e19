use Rattle.std.proofs.Common.{[], reverse, subst, refl}
use Rattle.plain_store.specs.{Setup}
use Rattle.scenario.specs.{script}
use Rattle.sweeper.proofs.Goods.{found_is}
use Rattle.sweeper.specs.{cuts}
use Rattle.scenario_run.specs.{accepted_events, happenings, run_at_start, runs}
use Rattle.engines.specs.{SweepsRun, accepted_calls}
use Rattle.engines.proofs.sweeping.sweep_lines.Given.{Over}
use Rattle.engines.proofs.sweeping.sweep_lines.Goals.{After-found}
use Rattle.engines.proofs.sweeping.sweep_lines.Goals as goal

-- the sweeper has gone along the whole run
gone : (g : Over) (c : After-found g) → SweepsRun c.args.scenario.now.setup (accepted_calls (script c.args.scenario.now)) (happenings (script c.args.scenario.now)) c.play_all.new.observer.calls.now c.play_all.new.observer.sweeper
gone g c =
    let along = c.args.along.now in
    let then = c.play_all.new.observer in
    let calls = accepted_calls (script c.args.scenario.now) in
    let s : Setup = c.args.scenario.now.setup in
    let on = subst (λ (s : Setup). SweepsRun s calls [] along.calls.now along.sweeper → SweepsRun s calls (runs s c.args.scenario.now.lines.items run_at_start).happened then.calls.now then.sweeper) c.requires.setup
    ((c.in-Ok.ensures.whole refl run_at_start c.requires.follows).observes calls) in
    on (record { given_are = c.requires.calls; swept = c.requires.swept calls })

pub returns-clause-swept : goal.returns-clause-swept
returns-clause-swept g c =
    let said = script c.args.scenario.now in
    c.found.ensures.found said.setup (accepted_calls said) (reverse (accepted_events said)) (gone g c).swept

pub returns-clause-is : goal.returns-clause-is
returns-clause-is g c =
    let said = script c.args.scenario.now in
    let good = c.found.ensures.good said.setup (accepted_calls said) (reverse (accepted_events said)) (gone g c).swept in
    found_is said.setup (cuts said.setup (accepted_calls said) (reverse (accepted_events said))) c.found.result (returns-clause-swept g c) good
