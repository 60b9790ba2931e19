use Rattle.std.proofs.Common.{refl, subst, sym}
use Rattle.scenario_run.specs.{text_of}
use Rattle.scenario_run.specs.Writing.{Counts}
use Rattle.scenario_run.proofs.Counting.{counts_passed, text_passed, with_events}
use Rattle.scenario_run.proofs.Endings.{took_same}
use Rattle.scenario_run.proofs.Within.{within_quietly}
use Rattle.engines.proofs.replaying.ReplayWriterRunObserver.pass.Goals as goal

pub returns-clause-observed : goal.returns-clause-observed
returns-clause-observed g c = λ off s before after passed.
    let passes = within_quietly s _ c.args.steps before after passed.within in
    let old = c.args.self.now in (
      refl,
      (λ counts. subst (λ n. Counts s after (with_events n old.summary)) (sym c.from.ensures) (counts_passed s c.args.steps before after old.summary passes counts)),
      took_same (Counts s before old.summary) (text_of s before) (text_of s after) (g.W.Sink.taken old.output.now) (g.W.Sink.failures old.output.now) (text_passed s c.args.steps before after passes),
    )
