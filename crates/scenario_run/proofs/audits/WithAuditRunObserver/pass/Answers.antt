use Rattle.scenario_run.proofs.audits.WithAuditRunObserver.pass.Goals as goal

pub returns-clause-observed : goal.returns-clause-observed
returns-clause-observed g c = λ off s before after by. (c.pass.ensures.observed off s before after by, λ audits. c.observe_run.ensures s c.args.overlapped before after by audits)
