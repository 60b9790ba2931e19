use Rattle.std.proofs.Common.{subst, sym}
use Rattle.scenario_run.specs.Writing.{Counts}
use Rattle.scenario_run.proofs.Counting.{counts_passed, with_events}
use Rattle.scenario_run.proofs.Within.{within_quietly}
use Rattle.scenario_run.proofs.summaries.SummaryRunObserver.pass.Goals as goal

pub returns-clause-observed : goal.returns-clause-observed
returns-clause-observed c = λ off s before after passed counts. subst (λ n. Counts s after (with_events n c.args.self.now)) (sym c.from.ensures) (counts_passed s c.args.steps before after c.args.self.now (within_quietly s _ c.args.steps before after passed.within) counts)
