use Rattle.std.proofs.Common.{refl}
use Rattle.scenario_run.proofs.Endings.{took_same}
use Rattle.calls.specs.{HasTabled, lines_after}
use Rattle.calls.proofs.TabledSteps.{pass_lines, pass_tabled}
use Rattle.calls.proofs.observing.CallsWriterRunObserver.pass.Goals as goal

pub returns-clause-observed : goal.returns-clause-observed
returns-clause-observed g c = λ off s before after by.
    let old = c.args.self.now in (
      refl,
      refl,
      (λ tabled. pass_tabled s c.args.process c.args._flicks.now c.args.steps c.args.newest c.args.overlapped before after old.table.now c.pass.new.self c.requires.nonzero by (λ past later. c.pass.ensures.observed past later c.args.newest refl) c.pass.ensures.setup tabled),
      took_same (HasTabled s before old.table.now) (lines_after s before) (lines_after s after) (g.W.Sink.taken old.output.now) (g.W.Sink.failures old.output.now) (pass_lines s c.args.process c.args.steps before after by.within),
    )
