use Rattle.std.proofs.Common.{map, refl, subst, sym}
use Rattle.world.specs.Shows.{Shows}
use Rattle.scenario_run.specs.{ScenarioRunState, Follows, Run, Tries}
use Rattle.scenario_run.proofs.Played.{tried_all}
use Rattle.scenario_run.proofs.turns.ScenarioRun.shows_a_run.Goals as goal

pub returns : goal.returns
returns c =
    let i = c.self.inside in
    let (events, shows) = c.shown.ensures in
    let run : Run = record { happened = map Tries events; flicks = i.flicks } in
    subst (λ (now : ScenarioRunState). (run : Run) × Follows now run) c.self.view_is (run, record { shows = subst (λ events. Shows i.world events) (sym (tried_all events)) shows; flicks = refl })
