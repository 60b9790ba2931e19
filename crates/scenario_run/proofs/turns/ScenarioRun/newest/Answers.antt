use Rattle.std.proofs.Common.{◌≡◌, List, subst}
use Rattle.model.specs.{Event, past_of}
use Rattle.world.specs.Shows.{Shows}
use Rattle.scenario_run.specs.{ScenarioRunState, newest_store}
use Rattle.scenario_run.proofs.Images.{newest_is}
use Rattle.scenario_run.proofs.turns.ScenarioRun.newest.Goals as goal

pub returns-in-Some : goal.returns-in-Some
returns-in-Some c =
    let i = c.self.inside in
    let family : ScenarioRunState → Type 0 = λ now. (events : List Event) → Shows now.world events → c.newest-newest.result ≡ newest_store now.world.setup (past_of now.world.setup events) in
    subst family c.self.view_is (λ events shows. newest_is i.world events c.newest-newest.result shows (rw c.in-Some.is c.bytes-image.ensures.store) (c.newest-newest.ensures events shows))

pub returns-in_default : goal.returns-in_default
returns-in_default c =
    let i = c.self.inside in
    let family : ScenarioRunState → Type 0 = λ now. (events : List Event) → Shows now.world events → c.newest-newest.result ≡ newest_store now.world.setup (past_of now.world.setup events) in
    subst family c.self.view_is (λ events shows. newest_is i.world events c.newest-newest.result shows (rw c.in_default.is tt) (c.newest-newest.ensures events shows))
