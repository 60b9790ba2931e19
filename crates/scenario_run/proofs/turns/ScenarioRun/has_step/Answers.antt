use Rattle.std.proofs.Common.{◌≡◌, ◌<◌, ◌∙◌, false, sym, subst}
use Rattle.model.specs.{is_at_work, stage}
use Rattle.scenario_run.specs.{ScenarioRunState, Follows, Run, past_in}
use Rattle.scenario_run.proofs.ScenarioRunTurns.{enabled_reported, enabled_beyond}
use Rattle.scenario_run.proofs.turns.ScenarioRun.has_step.Goals as goal

pub returns-in-Some : goal.returns-in-Some
returns-in-Some c =
    let i = c.self.inside in
    let family : ScenarioRunState → Type 0 = λ now. (run : Run) → Follows now run → c.args.process < now.world.setup.processes → c.is_at_work.result ≡ is_at_work (stage c.args.process (past_in now.world.setup run)) in
    subst family c.self.view_is (λ run follows within. c.is_at_work.ensures ∙ enabled_reported i.world c.args.process c.in-Some.stage (λ events shows. sym c.in-Some.is ∙ c.stage.ensures events shows) i.flicks i.remaining run follows)

pub returns-in-None : goal.returns-in-None
returns-in-None c =
    let i = c.self.inside in
    let family : ScenarioRunState → Type 0 = λ now. (run : Run) → Follows now run → c.args.process < now.world.setup.processes → false ≡ is_at_work (stage c.args.process (past_in now.world.setup run)) in
    subst family c.self.view_is (λ run follows within. absurd (enabled_beyond i.world c.args.process (λ events shows. sym c.in-None.is ∙ c.stage.ensures events shows) i.flicks i.remaining run follows within))
