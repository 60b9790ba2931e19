use Rattle.std.proofs.Common.{◌≡◌, ◌+◌, ◌∙◌, [], Err, add-zero, ap, arith, refl, subst, sym, vec_items}
use Rattle.std.specs.Io.KnownBytes.{Appends}
use Rattle.scenario.specs.{Script, script}
use Rattle.scenario.specs.files.{WritesFront}
use Rattle.scenario_run.proofs.Written.{failed_same, front_all, line_front, line_whole}
use Rattle.scenario_run.proofs.Played.{on_fault}
use Rattle.scenario_run.specs.{IsWriteFault, Writes, WritesPart, failed_write, happenings, run_at_start}
use Rattle.engines.specs.{entries_text, recorded}
use Rattle.engines.proofs.Recordings.{head_cut, head_text, record_cut, record_written}
use Rattle.engines.proofs.recording.record_scenario.Goals as goal

pub returns-in_err-write_bytes-clause-front : goal.returns-in_err-write_bytes-clause-front
returns-in_err-write_bytes-clause-front g c =
    head_cut (script c.args.scenario.now) _ _ (line_front (λ bytes. vec_items bytes) _ _ c.print_setup.result (head_text c.args.scenario.now.setup) c.print_setup.ensures.lines c.in_err-write_bytes.ensures.front c.in_err-write_bytes.ensures.none)

pub returns-in_err-play_all-clause-front : goal.returns-in_err-play_all-clause-front
returns-in_err-play_all-clause-front g c =
    let was : Script = record { setup = c.in_ok-scenario_run.scenario_run.world.setup; lines = c.args.scenario.now.lines.items } in
    let said : Script = script c.args.scenario.now in
    let same : was ≡ said = λ i. record { setup = c.in_ok-scenario_run.ensures.setup i; lines = c.args.scenario.now.lines.items } in
    let cut = c.in_err-play_all.ensures.cut run_at_start c.in_ok-scenario_run.ensures.follows in
    let head = line_whole (λ bytes. vec_items bytes) _ _ c.print_setup.result (head_text said.setup) c.print_setup.ensures.lines c.in_ok-write_bytes.ensures.made c.in_ok-write_bytes.ensures.written in
    let part : WritesPart [] (entries_text said.setup (happenings said)) (g.W.Sink.taken c.write_bytes.new.output) (g.W.Sink.taken c.play_all.new.observer.output.now) =
    subst (λ (said : Script). WritesPart [] (entries_text said.setup (happenings said)) (g.W.Sink.taken c.write_bytes.new.output) (g.W.Sink.taken c.play_all.new.observer.output.now)) same (cut.1.part tt) in
    subst (λ w. WritesFront (g.W.Sink.taken c.args.output.now) (g.W.Sink.taken w) (recorded said)) (sym (c.output-1.given.1 (sym cut.0))) (record_cut said _ _ _ head part)

pub returns-in_err-play_all-clause-fails : goal.returns-in_err-play_all-clause-fails
returns-in_err-play_all-clause-fails g c =
    let fault = c.in_err-play_all.field-0.0 in
    let wrote : g.W.Sink.failures c.write_bytes.new.output ≡ g.W.Sink.failures c.args.output.now = omega (arith, c.in_ok-write_bytes.ensures.fails.counted) in
    let cut = c.in_err-play_all.ensures.cut run_at_start c.in_ok-scenario_run.ensures.follows in
    record {
      fault = on_fault c.from_residual-in_err-play_all.result fault IsWriteFault c.from_residual-in_err-play_all.ensures.1 cut.1.is;
      counted =
          ap g.W.Sink.failures (c.output-1.given.1 (sym cut.0)) ∙ cut.1.fails_are ∙ ap (λ k. k + failed_write {A = Unit {0}} (Err fault)) wrote
          ∙ ap (λ k. g.W.Sink.failures c.args.output.now + k) (sym (failed_same c.from_residual-in_err-play_all.result fault c.from_residual-in_err-play_all.ensures.1));
    }

pub returns-clause-written : goal.returns-clause-written
returns-clause-written g c =
    let was : Script = record { setup = c.in_ok-scenario_run.scenario_run.world.setup; lines = c.args.scenario.now.lines.items } in
    let said : Script = script c.args.scenario.now in
    let same : was ≡ said = λ i. record { setup = c.in_ok-scenario_run.ensures.setup i; lines = c.args.scenario.now.lines.items } in
    let played = c.in_ok-play_all.ensures.whole refl run_at_start c.in_ok-scenario_run.ensures.follows in
    let head = line_whole (λ bytes. vec_items bytes) _ _ c.print_setup.result (head_text said.setup) c.print_setup.ensures.lines c.in_ok-write_bytes.ensures.made c.in_ok-write_bytes.ensures.written in
    let writes : Writes [] (entries_text said.setup (happenings said)) (g.W.Sink.taken c.write_bytes.new.output) (g.W.Sink.taken c.play_all.new.observer.output.now) =
    subst (λ (said : Script). Writes [] (entries_text said.setup (happenings said)) (g.W.Sink.taken c.write_bytes.new.output) (g.W.Sink.taken c.play_all.new.observer.output.now)) same (played.observes.1.writes tt) in
    subst (λ w. Appends (g.W.Sink.taken c.args.output.now) (g.W.Sink.taken w) (recorded said)) (sym (c.output-1.given.1 (sym played.observes.0))) (record_written said _ _ _ head writes)

pub returns-clause-front : goal.returns-clause-front
returns-clause-front g c = front_all _ _ _ (returns-clause-written g c)

pub returns-clause-fails : goal.returns-clause-fails
returns-clause-fails g c =
    let wrote : g.W.Sink.failures c.write_bytes.new.output ≡ g.W.Sink.failures c.args.output.now = omega (arith, c.in_ok-write_bytes.ensures.fails.counted) in
    let played = c.in_ok-play_all.ensures.whole refl run_at_start c.in_ok-scenario_run.ensures.follows in
    record { fault = tt; counted = ap g.W.Sink.failures (c.output-1.given.1 (sym played.observes.0)) ∙ played.observes.1.whole ∙ wrote ∙ sym (add-zero (g.W.Sink.failures c.args.output.now)) }
