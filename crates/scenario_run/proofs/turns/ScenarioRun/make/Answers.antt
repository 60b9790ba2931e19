use Rattle.std.proofs.Common.{arith, ◌≤◌, ◌-◌, ap, sym, subst}
use Rattle.std.specs.Prelude.{Some, None}
use Rattle.scenario.specs.declared.lines.Line.TheVariants as line
use Rattle.scenario_run.specs.{ScenarioRunState, Follows, Makes, Run, scenario_run, turn_of}
use Rattle.scenario_run.specs.declared.reports.TurnReport.TheVariants as reported
use Rattle.scenario_run.proofs.ScenarioRunTurns.{flick_made, show_made, turn_made, turn_made_by}
use Rattle.scenario_run.proofs.turns.ScenarioRun.make.Goals as goal

pub returns-in-Call-clause-made : goal.returns-in-Call-clause-made
returns-in-Call-clause-made c =
    turn_made_by c.args.self.now c.event.new.self c.args.line.now (line.Call c.in-Call.process c.in-Call.command) c.event.result (λ none. omega (arith, none, c.requires.some_remaining)) c.in-Call.is c.event.ensures.made

pub returns-in-Fail-clause-made : goal.returns-in-Fail-clause-made
returns-in-Fail-clause-made c =
    turn_made_by c.args.self.now c.event-in-Fail.new.self c.args.line.now (line.Fail c.in-Fail.process) c.event-in-Fail.result (λ none. omega (arith, none, c.requires.some_remaining)) c.in-Fail.is c.event-in-Fail.ensures.made

pub returns-in-Withdraw-clause-made : goal.returns-in-Withdraw-clause-made
returns-in-Withdraw-clause-made c =
    turn_made_by c.args.self.now c.event-in-Withdraw.new.self c.args.line.now (line.Withdraw c.in-Withdraw.process) c.event-in-Withdraw.result (λ none. omega (arith, none, c.requires.some_remaining)) c.in-Withdraw.is c.event-in-Withdraw.ensures.made

pub returns-in-Restart-clause-made : goal.returns-in-Restart-clause-made
returns-in-Restart-clause-made c =
    turn_made_by c.args.self.now c.event-in-Restart.new.self c.args.line.now (line.Restart c.in-Restart.process) c.event-in-Restart.result (λ none. omega (arith, none, c.requires.some_remaining)) c.in-Restart.is c.event-in-Restart.ensures.made

pub returns-in-Flick-clause-made : goal.returns-in-Flick-clause-made
returns-in-Flick-clause-made c =
    let i = c.self.inside in
    let remaining = ap (λ (s : ScenarioRunState). s.remaining) c.self.view_is in
    let few : i.remaining ≤ 1 = rw c.in-Flick.is at rw (sym c.self.view_is) at c.requires.bounded in
    let new : ScenarioRunState = scenario_run i.world c.set.new.self (i.remaining - 1) in
    let family : ScenarioRunState → Type 0 = λ old. (run : Run) → Follows old run → Makes old run (turn_of old.world.setup c.args.line.now old.remaining run) None new in
    subst family c.self.view_is (turn_made (scenario_run i.world i.flicks i.remaining) new c.args.line.now (line.Flick c.in-Flick.flick) None (λ none. omega (arith, none, remaining, c.requires.some_remaining)) c.in-Flick.is
    (flick_made i.world i.flicks c.set.new.self i.remaining c.in-Flick.flick few c.set.ensures))

pub returns-in-Show-clause-made : goal.returns-in-Show-clause-made
returns-in-Show-clause-made c =
    let i = c.self-in-Show.inside in
    let remaining = ap (λ (s : ScenarioRunState). s.remaining) c.self-in-Show.view_is in
    let new : ScenarioRunState = scenario_run i.world i.flicks (i.remaining - 1) in
    let family : ScenarioRunState → Type 0 = λ old. (run : Run) → Follows old run → Makes old run (turn_of old.world.setup c.args.line.now old.remaining run) (Some (reported.Shown c.newest.result)) new in
    subst family c.self-in-Show.view_is (turn_made (scenario_run i.world i.flicks i.remaining) new c.args.line.now line.Show (Some (reported.Shown c.newest.result)) (λ none. omega (arith, none, remaining, c.requires.some_remaining)) c.in-Show.is
    (show_made i.world i.flicks i.remaining (reported.Shown c.newest.result) c.newest.ensures tt))
