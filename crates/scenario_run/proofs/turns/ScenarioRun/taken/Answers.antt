use Rattle.std.proofs.Common.{◌≡◌, ap, subst, length}
use Rattle.model.specs.{history}
use Rattle.scenario_run.specs.{ScenarioRunState, Follows, Run, past_in, tried}
use Rattle.scenario_run.proofs.turns.ScenarioRun.taken.Goals as goal

pub returns : goal.returns
returns c =
    let i = c.self.inside in
    let family : ScenarioRunState → Type 0 = λ now. (run : Run) → Follows now run → length c.history.result.now ≡ length (history now.world.setup (past_in now.world.setup run)) in
    subst family c.self.view_is (λ run follows. ap length (c.history.ensures (tried run.happened) follows.shows))
