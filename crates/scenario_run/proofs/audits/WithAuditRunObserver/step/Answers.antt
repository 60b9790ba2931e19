use Rattle.scenario_run.proofs.Observers.{stepped_audited}
use Rattle.scenario_run.proofs.Written.{ok_then}
use Rattle.scenario_run.proofs.audits.WithAuditRunObserver.step.Goals as goal

pub returns-clause-observed : goal.returns-clause-observed
returns-clause-observed g c = ok_then c.step.result (λ observed s before on. (observed s before on, λ audits. stepped_audited s before c.args.made c.args.self.now.audit c.observe.new.self on c.observe.ensures audits)) c.step.ensures.observed
