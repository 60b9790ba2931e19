use Rattle.std.proofs.Common.{◌∙◌, sym}
use Rattle.engines.proofs.Sweepings.{calls_passed}
use Rattle.engines.proofs.sweeping.CallsRunObserver.pass.Goals as goal

pub returns-clause-observed : goal.returns-clause-observed
returns-clause-observed c = λ none s before after passes are. are ∙ sym (calls_passed s c.args._process c.args.steps before after passes.within)
