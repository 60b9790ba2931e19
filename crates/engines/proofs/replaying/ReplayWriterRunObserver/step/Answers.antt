use Rattle.std.proofs.Common.{◌∷◌, refl}
use Rattle.scenario_run.specs.model.declared.events.Event.TheVariants.{Step}
use Rattle.scenario_run.specs.{Tries, text_of}
use Rattle.scenario_run.specs.Writing.{Counts}
use Rattle.scenario_run.proofs.Counting.{counts_stepped, step_passes, text_passed}
use Rattle.scenario_run.proofs.Endings.{took_same}
use Rattle.engines.proofs.replaying.ReplayWriterRunObserver.step.Goals as goal

pub returns-clause-observed : goal.returns-clause-observed
returns-clause-observed g c = λ s before on.
    let old = c.args.self.now in
    let made = c.args._made in
    let after = Tries (Step made.process made.flick) ∷ before in (
      refl,
      counts_stepped s before made old.summary on,
      took_same (Counts s before old.summary) (text_of s before) (text_of s after) (g.W.Sink.taken old.output.now) (g.W.Sink.failures old.output.now) (text_passed s 1 before after (step_passes s before made on)),
    )
