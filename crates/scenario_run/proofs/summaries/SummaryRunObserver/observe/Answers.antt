use Rattle.scenario_run.proofs.Counting.{counts_observed}
use Rattle.scenario_run.proofs.summaries.SummaryRunObserver.observe.Goals as goal

pub returns-clause-observed : goal.returns-clause-observed
returns-clause-observed c = λ s before this happens counts. counts_observed s before this c.args.reported.now c.args.self.now c.count.new.self happens c.count.ensures counts
