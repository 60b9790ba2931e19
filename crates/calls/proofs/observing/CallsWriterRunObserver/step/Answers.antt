use Rattle.std.proofs.Common.{◌∷◌, refl}
use Rattle.model.specs.declared.events.Event.TheVariants.{Step}
use Rattle.scenario_run.specs.{Tries}
use Rattle.scenario_run.proofs.Endings.{took_same}
use Rattle.calls.specs.{HasTabled, lines_after}
use Rattle.calls.proofs.TabledSteps.{step_lines, step_tabled}
use Rattle.calls.proofs.observing.CallsWriterRunObserver.step.Goals as goal

pub returns-clause-observed : goal.returns-clause-observed
returns-clause-observed g c = λ s before on.
    let old = c.args.self.now in
    let made = c.args.made in
    let after = Tries (Step made.process made.flick) ∷ before in (
      refl,
      refl,
      (λ tabled. step_tabled s before made old.table.now c.observe_step.new.table on c.observe_step.ensures.observed c.observe_step.ensures.setup tabled),
      took_same (HasTabled s before old.table.now) (lines_after s before) (lines_after s after) (g.W.Sink.taken old.output.now) (g.W.Sink.failures old.output.now) (step_lines s before made on),
    )
