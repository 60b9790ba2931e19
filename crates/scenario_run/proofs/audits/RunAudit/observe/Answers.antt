use Rattle.model.specs.{Entry}
use Rattle.scenario_run.proofs.Observers.{audits_more}
use Rattle.scenario_run.proofs.audits.RunAudit.observe.Goals as goal

pub returns : goal.returns
returns c = λ s past keeps audits.
    let e : Entry = record { process = c.args.process; access = c.args.access.now; marks = c.args.marks.now } in
    audits_more s past e c.args.self.now c.note.new.self c.observe-law.new.self c.observe-law.result keeps audits c.observe-law.ensures.observed c.observe-law.ensures.setup c.note.ensures.auditor c.note.ensures.kept
