use Rattle.std.proofs.Common.{◌≡◌, ◌+◌, ◌∙◌, [], ap, arith, subst, sym, refl}
use Rattle.scenario.specs.files.{WritesFront}
use Rattle.scenario.specs.{Script, script}
use Rattle.std.specs.Io.KnownBytes.{Appends}
use Rattle.scenario_run.specs.{IsWriteFault, RunKeepsMainTheorem, Summary, Writes, WritesPart, happenings, replayed, run_at_start, runs, summary_of, text_of}
use Rattle.scenario_run.proofs.Onwards.{run_main_theorem, run_numbers}
use Rattle.scenario_run.proofs.Played.{on_fault}
use Rattle.scenario.proofs.files.Failing.{fails_after}
use Rattle.scenario_run.proofs.Written.{failed_same, front_all}
use Rattle.engines.proofs.Replayings.{counts_none, replay_cut, replay_end_cut, replay_written}
use Rattle.engines.proofs.replaying.replay_scenario.Goals as goal

pub returns-in_err-play_all-clause-front : goal.returns-in_err-play_all-clause-front
returns-in_err-play_all-clause-front g c =
    let s = c.in_ok-scenario_run.scenario_run.world.setup in
    let said : Script = record { setup = s; lines = c.args.scenario.now.lines.items } in
    let same : said ≡ script c.args.scenario.now = λ i. record { setup = c.in_ok-scenario_run.ensures.setup i; lines = c.args.scenario.now.lines.items } in
    let cut = c.in_err-play_all.ensures.cut run_at_start c.in_ok-scenario_run.ensures.follows in
    let part : WritesPart [] (text_of s (happenings said)) (g.W.Sink.taken c.args.output.now) (g.W.Sink.taken c.play_all.new.observer.output.now) = cut.1.part (counts_none s c.new-summary.result c.new-summary.ensures) in
    subst (λ w. WritesFront (g.W.Sink.taken c.args.output.now) (g.W.Sink.taken w) (replayed (script c.args.scenario.now))) (sym (c.in_err-play_all.output-1-own.given.1 (sym cut.0)))
    (subst (λ said. WritesFront (g.W.Sink.taken c.args.output.now) (g.W.Sink.taken c.play_all.new.observer.output.now) (replayed said)) same (replay_cut said _ _ part))

pub returns-in_err-play_all-clause-fails : goal.returns-in_err-play_all-clause-fails
returns-in_err-play_all-clause-fails g c =
    let cut = c.in_err-play_all.ensures.cut run_at_start c.in_ok-scenario_run.ensures.follows in
    record {
      fault = on_fault c.from_residual-in_err-play_all.result c.in_err-play_all.field-0.0 IsWriteFault c.from_residual-in_err-play_all.ensures.1 cut.1.is;
      counted =
          ap g.W.Sink.failures (c.in_err-play_all.output-1-own.given.1 (sym cut.0)) ∙ cut.1.fails_are
          ∙ ap (λ k. g.W.Sink.failures c.args.output.now + k) (sym (failed_same c.from_residual-in_err-play_all.result c.in_err-play_all.field-0.0 c.from_residual-in_err-play_all.ensures.1));
    }

pub write_end-requires : goal.write_end-requires
write_end-requires g c =
    let plays = c.in_ok-play_all.ensures.whole refl run_at_start c.in_ok-scenario_run.ensures.follows in
    let whole = ap g.W.Sink.failures (c.output-2-1.given.1 (sym plays.observes.0)) ∙ plays.observes.2.whole in
    omega (arith, whole, c.requires)

pub returns-in_err-write_end-clause-front : goal.returns-in_err-write_end-clause-front
returns-in_err-write_end-clause-front g c =
    let s = c.in_ok-scenario_run.scenario_run.world.setup in
    let said : Script = record { setup = s; lines = c.args.scenario.now.lines.items } in
    let same : said ≡ script c.args.scenario.now = λ i. record { setup = c.in_ok-scenario_run.ensures.setup i; lines = c.args.scenario.now.lines.items } in
    let plays = c.in_ok-play_all.ensures.whole refl run_at_start c.in_ok-scenario_run.ensures.follows in
    let counts = counts_none s c.new-summary.result c.new-summary.ensures in
    let numbers = run_numbers s (runs s said.lines run_at_start) c.play_all.new.self c.play_all.new.observer.summary c.taken.result plays.follows plays.setup (plays.observes.1 counts) c.taken.ensures in
    let writes : Writes [] (text_of s (happenings said)) (g.W.Sink.taken c.args.output.now) (g.W.Sink.taken c.output-2-1.given.0) =
    subst (λ w. Writes [] (text_of s (happenings said)) (g.W.Sink.taken c.args.output.now) (g.W.Sink.taken w)) (sym (c.output-2-1.given.1 (sym plays.observes.0))) (plays.observes.2.writes counts) in
    subst (λ said. WritesFront (g.W.Sink.taken c.args.output.now) (g.W.Sink.taken c.write_end.new.output) (replayed said)) same
    (replay_end_cut said _ _ _ _ writes numbers c.in_err-write_end.ensures.front)

pub returns-in_err-write_end-clause-fails : goal.returns-in_err-write_end-clause-fails
returns-in_err-write_end-clause-fails g c =
    let plays = c.in_ok-play_all.ensures.whole refl run_at_start c.in_ok-scenario_run.ensures.follows in
    let whole = ap g.W.Sink.failures (c.output-2-1.given.1 (sym plays.observes.0)) ∙ plays.observes.2.whole in
    fails_after g.W.Sink.failures c.from_residual-in_err-write_end.result c.in_err-write_end.field-0.0 _ _ _ c.from_residual-in_err-write_end.ensures.1 whole c.in_err-write_end.ensures.fails

pub returns : goal.returns
returns g c =
    let s = c.in_ok-scenario_run.scenario_run.world.setup in
    let said : Script = record { setup = s; lines = c.args.scenario.now.lines.items } in
    let same : said ≡ script c.args.scenario.now = λ i. record { setup = c.in_ok-scenario_run.ensures.setup i; lines = c.args.scenario.now.lines.items } in
    let plays = c.in_ok-play_all.ensures.whole refl run_at_start c.in_ok-scenario_run.ensures.follows in
    let counts = counts_none s c.new-summary.result c.new-summary.ensures in
    let numbers = run_numbers s (runs s said.lines run_at_start) c.play_all.new.self c.play_all.new.observer.summary c.taken.result plays.follows plays.setup (plays.observes.1 counts) c.taken.ensures in
    let is = c.output-2-1.given.1 (sym plays.observes.0) in
    let writes : Writes [] (text_of s (happenings said)) (g.W.Sink.taken c.args.output.now) (g.W.Sink.taken c.output-2-1.given.0) =
    subst (λ w. Writes [] (text_of s (happenings said)) (g.W.Sink.taken c.args.output.now) (g.W.Sink.taken w)) (sym is) (plays.observes.2.writes counts) in
    let ok : Appends (g.W.Sink.taken c.args.output.now) (g.W.Sink.taken c.write_end.new.output) (replayed (script c.args.scenario.now)) =
    subst (λ said. Appends (g.W.Sink.taken c.args.output.now) (g.W.Sink.taken c.write_end.new.output) (replayed said)) same (replay_written said _ _ _ _ writes numbers c.in_ok-write_end.ensures.written) in
    let last : Summary = record c.play_all.new.observer.summary { taken = c.taken.result } in
    let whole = ap g.W.Sink.failures is ∙ plays.observes.2.whole in
    record {
      written = ok;
      front = front_all _ _ _ ok;
      summary = subst (λ said. last ≡ summary_of said.setup (happenings said)) same numbers;
      main_theorem = subst RunKeepsMainTheorem same (run_main_theorem said plays);
      fails = record { fault = tt; counted = omega (arith, whole, c.in_ok-write_end.ensures.fails.counted) };
    }
