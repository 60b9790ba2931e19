use Rattle.std.proofs.Common.{◌≡◌, subst, refl}
use Rattle.scenario.specs.{Script, script}
use Rattle.scenario_run.specs.{accepted_events, run_at_start}
use Rattle.engines.proofs.listing.events_of.Goals as goal

pub returns : goal.returns
returns c =
    let said : Script = record { setup = c.in_ok-scenario_run.scenario_run.world.setup; lines = c.args.scenario.now.lines.items } in
    let same : said ≡ script c.args.scenario.now = λ i. record { setup = c.in_ok-scenario_run.ensures.setup i; lines = c.args.scenario.now.lines.items } in
    subst (λ said. c.play_all.new.observer.events.items ≡ accepted_events said) same ((c.in-Ok.ensures.whole refl run_at_start c.in_ok-scenario_run.ensures.follows).observes c.new-events.ensures.items)
