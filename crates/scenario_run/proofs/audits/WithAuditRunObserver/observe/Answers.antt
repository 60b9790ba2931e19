use Rattle.scenario_run.proofs.Written.{ok_then}
use Rattle.scenario_run.proofs.audits.WithAuditRunObserver.observe.Goals as goal

pub returns-clause-observed : goal.returns-clause-observed
returns-clause-observed g c = ok_then c.observe.result (λ observed s before this happens. (observed s before this happens, λ audits. c.observe_reported.ensures s before this happens audits)) c.observe.ensures.observed
