use Rattle.std.proofs.Common.{◌-◌, [], Some, subst}
use Rattle.plain_store.specs.{Setup}
use Rattle.model.specs.{Past, past_of}
use Rattle.safe_monitor.specs.{entry_by}
use Rattle.auditor.specs.{IsObserved, steps_on}
use Rattle.auditor.proofs.auditor.Auditor.observe_run.Goals as goal

pub returns-clause-observed : goal.returns-clause-observed
returns-clause-observed c = λ within events h.
    let past : Past = past_of c.args.self.now.core.setup (steps_on c.args.process c.args.flicks.now (c.args.steps - 1) events) in
    subst (λ (s : Setup). IsObserved s past (entry_by c.args.process (Some c.args.newest) []) c.observe_within.new.self c.observe_within.result) c.advance.ensures.setup
    (c.observe_within.ensures.observed past (c.advance.ensures.observed events h))
