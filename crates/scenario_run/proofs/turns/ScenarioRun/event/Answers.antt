use Rattle.std.proofs.Common.{◌-◌, false, length, refl, subst}
use Rattle.std.specs.Prelude.{IfOk, Option, Some}
use Rattle.model.specs.{Access}
use Rattle.scenario_run.specs.{Accepted, ScenarioRunState, Follows, Makes, Run, TurnReport, Tries, scenario_run, happens}
use Rattle.scenario_run.specs.declared.reports.TurnReport.TheVariants as reported
use Rattle.scenario_run.proofs.ScenarioRunTurns.{event_accepted, event_refused_by}
use Rattle.scenario_run.proofs.turns.ScenarioRun.event.Goals as goal
use Rattle.scenario_run.proofs.turns.ScenarioRun.event.Goals.{in-Ok, in-Err}

pub returns-clause-made : goal.returns-clause-made
returns-clause-made c =
    let i = c.self.inside in
    let new : ScenarioRunState = scenario_run c.make.new.self i.flicks (i.remaining - 1) in
    let made : Option Access → Accepted = λ access. record { event = c.args.event; place = length c.history.result.now; access = access; overlapped = false; effect = c.make.new.effect } in
    let family : Option TurnReport → ScenarioRunState → Type 0 = λ answer old. (run : Run) → Follows old run → Makes old run (happens (Tries c.args.event) (old.remaining - 1) run) answer new in
    elim c.match-make.branch [
      | in-Ok w ↦ rw w.result-is (subst (family (Some (reported.Accepted (made w.in-Ok.access)))) c.self.view_is
          (event_accepted i.world c.make.new.self i.flicks i.remaining (made w.in-Ok.access) c.history.result.now c.history.ensures refl w.in-Ok.ensures.accepted w.in-Ok.ensures.shows w.in-Ok.ensures.setup c.requires.still refl))
      | in-Err w ↦ rw w.result-is (subst (λ (old : ScenarioRunState). IfOk w.refused.result (λ answer. family answer old)) c.self.view_is
          (event_refused_by i.world c.make.new.self i.flicks i.remaining w.process.result c.args.event w.in-Err.refusal w.refused.result w.process.ensures c.requires.given w.in-Err.ensures.refused w.in-Err.ensures.unchanged w.refused.ensures))
    ]
