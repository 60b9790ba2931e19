use Rattle.std.proofs.Common.{◌≡◌, ◌∙◌, ap, arith, refl, subst, sym}
use Rattle.scenario.specs.{Script, script}
use Rattle.scenario.specs.files.{WritesFront}
use Rattle.calls.specs.{TableState, tabled}
use Rattle.scenario_run.specs.{IsWriteFault, run_at_start}
use Rattle.scenario_run.proofs.Played.{on_fault}
use Rattle.scenario_run.proofs.Written.{failed_same, ok_then}
use Rattle.calls.proofs.Tabling.{all_tabled, head_cut, nothing_tabled, open_cut, table_cut, table_written}
use Rattle.calls.proofs.calling.table_scenario.Goals as goal

pub returns-in_err-write_header-clause-front : goal.returns-in_err-write_header-clause-front
returns-in_err-write_header-clause-front g c = head_cut (script c.args.scenario.now) _ _ c.in_err-write_header.ensures.front

pub returns-in_err-play_all-clause-front : goal.returns-in_err-play_all-clause-front
returns-in_err-play_all-clause-front g c =
    let said : Script = record { setup = c.in_ok-scenario_run.scenario_run.world.setup; lines = c.args.scenario.now.lines.items } in
    let same : said ≡ script c.args.scenario.now = λ i. record { setup = c.in_ok-scenario_run.ensures.setup i; lines = c.args.scenario.now.lines.items } in
    let cut = c.in_err-play_all.ensures.cut run_at_start c.in_ok-scenario_run.ensures.follows in
    let part = cut.1.part (nothing_tabled said.setup c.in_ok-table.table (c.in_ok-table.ensures.setup ∙ sym c.in_ok-scenario_run.ensures.setup) c.in_ok-table.ensures.observed) in
    let front : WritesFront (g.W.Sink.taken c.args.output.now) (g.W.Sink.taken c.play_all.new.observer.output.now) (tabled said) = table_cut said _ _ _ c.in_ok-write_header.ensures.written part in
    subst (λ w. WritesFront (g.W.Sink.taken c.args.output.now) (g.W.Sink.taken w) (tabled (script c.args.scenario.now))) (sym (c.output-1.given.1 (sym cut.0)))
    (subst (λ said. WritesFront (g.W.Sink.taken c.args.output.now) (g.W.Sink.taken c.play_all.new.observer.output.now) (tabled said)) same front)

pub returns-in_err-play_all-clause-fails : goal.returns-in_err-play_all-clause-fails
returns-in_err-play_all-clause-fails g c =
    let cut = c.in_err-play_all.ensures.cut run_at_start c.in_ok-scenario_run.ensures.follows in
    let is = ap g.W.Sink.failures (c.output-1.given.1 (sym cut.0)) ∙ cut.1.fails_are in
    let same = failed_same c.from_residual-in_err-play_all.result c.in_err-play_all.field-0.0 c.from_residual-in_err-play_all.ensures.1 in
    record {
      fault = on_fault c.from_residual-in_err-play_all.result c.in_err-play_all.field-0.0 IsWriteFault c.from_residual-in_err-play_all.ensures.1 cut.1.is;
      counted = omega (arith, is, c.in_ok-write_header.ensures.fails.counted, same);
    }

pub write_open-requires-clause-writes : goal.write_open-requires-clause-writes
write_open-requires-clause-writes g c =
    let plays = c.in_ok-play_all.ensures.whole refl run_at_start c.in_ok-scenario_run.ensures.follows in
    let whole = ap g.W.Sink.failures (c.output-1.given.1 (sym plays.observes.0)) ∙ plays.observes.3.whole in
    omega (arith, whole, c.in_ok-write_header.ensures.fails.counted, c.requires)

pub write_open-requires-clause-setup : goal.write_open-requires-clause-setup
write_open-requires-clause-setup g c =
    let plays = c.in_ok-play_all.ensures.whole refl run_at_start c.in_ok-scenario_run.ensures.follows in
    let had = nothing_tabled c.in_ok-scenario_run.scenario_run.world.setup c.in_ok-table.table (c.in_ok-table.ensures.setup ∙ sym c.in_ok-scenario_run.ensures.setup) c.in_ok-table.ensures.observed in
    ap (λ (t : TableState). t.setup) (c.table-3-1.given.1 (sym plays.observes.1)) ∙ (plays.observes.2 had).setup ∙ c.in_ok-scenario_run.ensures.setup

pub returns-clause-written : goal.returns-clause-written
returns-clause-written g c =
    let was : Script = record { setup = c.in_ok-scenario_run.scenario_run.world.setup; lines = c.args.scenario.now.lines.items } in
    let said : Script = script c.args.scenario.now in
    let same : was ≡ said = λ i. record { setup = c.in_ok-scenario_run.ensures.setup i; lines = c.args.scenario.now.lines.items } in
    let plays = c.in_ok-play_all.ensures.whole refl run_at_start c.in_ok-scenario_run.ensures.follows in
    let had = nothing_tabled was.setup c.in_ok-table.table (c.in_ok-table.ensures.setup ∙ sym c.in_ok-scenario_run.ensures.setup) c.in_ok-table.ensures.observed in
    let all = all_tabled {was = was} {said = said} same (c.table-3-1.given.1 (sym plays.observes.1)) (ap g.W.Sink.taken (c.output-1.given.1 (sym plays.observes.0))) (plays.observes.2 had) (plays.observes.3.writes had) in
    ok_then c.write_open.result (λ ends. table_written said _ _ _ _ c.in_ok-write_header.ensures.written all.1 (ends _ all.0.observed)) c.write_open.ensures.written

pub returns-clause-front : goal.returns-clause-front
returns-clause-front g c =
    let was : Script = record { setup = c.in_ok-scenario_run.scenario_run.world.setup; lines = c.args.scenario.now.lines.items } in
    let said : Script = script c.args.scenario.now in
    let same : was ≡ said = λ i. record { setup = c.in_ok-scenario_run.ensures.setup i; lines = c.args.scenario.now.lines.items } in
    let plays = c.in_ok-play_all.ensures.whole refl run_at_start c.in_ok-scenario_run.ensures.follows in
    let had = nothing_tabled was.setup c.in_ok-table.table (c.in_ok-table.ensures.setup ∙ sym c.in_ok-scenario_run.ensures.setup) c.in_ok-table.ensures.observed in
    let all = all_tabled {was = was} {said = said} same (c.table-3-1.given.1 (sym plays.observes.1)) (ap g.W.Sink.taken (c.output-1.given.1 (sym plays.observes.0))) (plays.observes.2 had) (plays.observes.3.writes had) in
    open_cut said _ _ _ _ c.in_ok-write_header.ensures.written all.1 (c.write_open.ensures.front _ all.0.observed)

pub returns-clause-fails : goal.returns-clause-fails
returns-clause-fails g c =
    let plays = c.in_ok-play_all.ensures.whole refl run_at_start c.in_ok-scenario_run.ensures.follows in
    let whole = ap g.W.Sink.failures (c.output-1.given.1 (sym plays.observes.0)) ∙ plays.observes.3.whole in
    record { fault = c.write_open.ensures.fails.fault; counted = omega (arith, whole, c.in_ok-write_header.ensures.fails.counted, c.write_open.ensures.fails.counted) }
