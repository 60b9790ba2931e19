use Rattle.std.proofs.Common.{◌≡◌, subst}
use Rattle.model.specs.{history}
use Rattle.scenario_run.specs.{ScenarioRunState, Follows, Run, past_in, tried}
use Rattle.scenario_run.proofs.turns.ScenarioRun.history.Goals as goal

pub returns : goal.returns
returns c =
    let family : ScenarioRunState → Type 0 = λ now. (run : Run) → Follows now run → c.history.result.now ≡ history now.world.setup (past_in now.world.setup run) in
    subst family c.self.view_is (λ run follows. c.history.ensures (tried run.happened) follows.shows)
