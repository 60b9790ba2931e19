use Rattle.std.proofs.Common.{ap, refl}
use Rattle.scenario_run.proofs.Within.{within_quietly}
use Rattle.draw.specs.{Drawing}
use Rattle.draw.proofs.Turning.{run_passed}
use Rattle.draw.proofs.runs.drawing.observing.RunDrawerRunObserver.pass.Goals as goal

pub returns-clause-observed : goal.returns-clause-observed
returns-clause-observed g c = λ none s before after passed. (
  refl,
  refl,
  ap (λ (d : Drawing). d.source) c.pass.ensures,
  refl,
  λ view start had from d. run_passed view s start had from c.args.steps before after c.args.self.now.run.now c.pass.new.self _ none (within_quietly s _ c.args.steps before after passed.within) c.pass.ensures d,
)
