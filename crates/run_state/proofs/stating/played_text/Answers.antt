use Rattle.std.proofs.Common.{arith}
use Rattle.calls.specs.scenario.{Script, script}
use Rattle.calls.specs.scenario_run.{PlaysPart, run_at_start}
use Rattle.calls.specs.scenario_run.declared.play_limit.PlayLimit.TheVariants as until
use Rattle.run_state.specs.{Observes}
use Rattle.run_state.proofs.Makers.{lines_within}
use Rattle.run_state.proofs.Played.{core_setup, played, text_is}
use Rattle.run_state.proofs.stating.played_text.Goals as goal

pub play_all-requires : goal.play_all-requires
play_all-requires g c =
    let few = c.args.scenario.now.few in
    let none = c.requires.seen.observed.entries in
    omega (arith, few, none)

pub push_made-requires : goal.push_made-requires
push_made-requires g c =
    let said : Script = script c.args.scenario.now in
    let p : PlaysPart Observes said.setup said.lines (until.Event c.args.events) run_at_start c.play_all.new.self c.args.observer.now c.play_all.new.observer c.in-Ok.newest =
    played said c.args.events c.args.scenario_run.now c.play_all.new.self c.args.observer.now c.play_all.new.observer c.in-Ok.newest c.requires.setup c.requires.scenario_run c.in-Ok.ensures.part in
    lines_within said.lines said.setup p.now c.in-Ok.newest p.newest_made

pub print-requires : goal.print-requires
print-requires g c =
    let said : Script = script c.args.scenario.now in
    let p : PlaysPart Observes said.setup said.lines (until.Event c.args.events) run_at_start c.play_all.new.self c.args.observer.now c.play_all.new.observer c.in-Ok.newest =
    played said c.args.events c.args.scenario_run.now c.play_all.new.self c.args.observer.now c.play_all.new.observer c.in-Ok.newest c.requires.setup c.requires.scenario_run c.in-Ok.ensures.part in
    core_setup said c.args.events c.play_all.new.self c.args.observer.now c.play_all.new.observer c.in-Ok.newest p c.requires.seen c.core-core.result.now c.core-core.ensures

pub returns : goal.returns
returns g c =
    let said : Script = script c.args.scenario.now in
    let p : PlaysPart Observes said.setup said.lines (until.Event c.args.events) run_at_start c.play_all.new.self c.args.observer.now c.play_all.new.observer c.in-Ok.newest =
    played said c.args.events c.args.scenario_run.now c.play_all.new.self c.args.observer.now c.play_all.new.observer c.in-Ok.newest c.requires.setup c.requires.scenario_run c.in-Ok.ensures.part in
    text_is said c.args.events c.play_all.new.self c.args.observer.now c.play_all.new.observer c.in-Ok.newest p c.requires.seen c.core-core.result.now c.core-core.ensures
    c.args.scenario.now.numbers.items c.history.result.now c.entries.result _ _ _ _ c.new-text.ensures.items (c.history.ensures p.now p.plays.follows) c.entries.ensures
    c.in_ok-print_head.ensures c.in_ok-push_made.ensures c.in_ok-print.ensures.lines
