use Rattle.std.proofs.Common.{◌≡◌, subst}
use Rattle.world.specs.{with_history}
use Rattle.scenario_run.specs.{ScenarioRunState}
use Rattle.scenario_run.proofs.turns.ScenarioRun.core.Goals as goal

pub returns : goal.returns
returns c =
    let family : ScenarioRunState → Type 0 = λ now. with_history c.core.result.now now.world.history ≡ now.world in
    subst family c.self.view_is c.core.ensures
