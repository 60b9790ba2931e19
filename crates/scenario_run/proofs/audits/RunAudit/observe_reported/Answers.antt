use Rattle.std.proofs.Common.{◌≡◌, ◌∙◌, ◌∷◌, subst}
use Rattle.plain_store.specs.{Setup}
use Rattle.model.specs.{Entry, Past}
use Rattle.auditor.specs.{KeepsAll}
use Rattle.scenario_run.specs.{Audits, entry_made}
use Rattle.scenario_run.proofs.Observers.{other_audited, reported_audited}
use Rattle.scenario_run.proofs.audits.RunAudit.observe_reported.Goals as goal

pub returns-in-Accepted : goal.returns-in-Accepted
returns-in-Accepted c = λ s before this happens audits.
    let made = c.in-Accepted.made in
    let old = c.args.self.now in
    let new = c.observe.new.self in
    let e : Entry = record { process = c.process.result; access = made.access; marks = c.as_slice.result.now } in
    let same : e ≡ entry_made made = λ i. record { process = c.process.ensures i; access = made.access; marks = (c.as_slice.ensures ∙ c.marks-marks.ensures) i } in
    reported_audited s before this made c.args.reported.now old new c.in-Accepted.is happens
    (subst (λ (e : Entry). (s : Setup) (past : Past) → KeepsAll s past e → Audits s past old → Audits s (e ∷ past) new) same c.observe.ensures) audits

pub returns-in_default : goal.returns-in_default
returns-in_default c = λ s before this happens audits. other_audited s before this c.args.reported.now c.args.self.now c.in_default.not-Accepted happens audits
