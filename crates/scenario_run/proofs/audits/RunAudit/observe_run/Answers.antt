use Rattle.scenario_run.proofs.Observers.{single_audited, stretch_audited}
use Rattle.scenario_run.proofs.audits.RunAudit.observe_run.Goals as goal

pub returns-then-steps-eq1 : goal.returns-then-steps-eq1
returns-then-steps-eq1 c = λ s overlapped before after by audits.
    single_audited s c.args.process c.args.flicks.now c.args.steps c.args.newest overlapped before after c.args.self.now c.observe.new.self c.if-steps-eq1.true by c.observe.ensures audits

pub returns : goal.returns
returns c = λ s overlapped before after by audits.
    let law = c.observe_run-law in
    stretch_audited s c.args.process c.args.flicks.now c.args.steps c.args.newest overlapped before after c.args.self.now c.note.new.self law.new.self law.result c.requires.nonzero by audits law.ensures.observed law.ensures.setup c.note.ensures.auditor c.note.ensures.kept
