use Rattle.std.proofs.Common.{◌≡◌, Bool, is_some, sym, ap, ◌∙◌}
use Rattle.model.specs.{value_of}
use Rattle.process.specs.{ProcessState, stepped}
use Rattle.bakery.specs.Sections.{goes_on, is_going, marks_reported, progress_on}
use Rattle.bakery.proofs.OwnAccesses.{write-own}
use Rattle.bakery.proofs.SectionSteps.{reported, reported-is}
use Rattle.bakery.proofs.section.Section.step.Goals as goal

then-is : (c : goal.After-at) → c.step-access.new.place ≡ stepped c.args.self.now c.args.flick (value_of c.step-access.result.how)
then-is c = c.step-access.ensures.process ∙ ap (λ (x : ProcessState). stepped x c.args.flick (value_of c.step-access.result.how)) c.self.view_is

progress-is : (c : goal.After-at) → c.at.result ≡ progress_on c.args.self.now (stepped c.args.self.now c.args.flick (value_of c.step-access.result.how))
progress-is c =
    let v : Bool = value_of c.step-access.result.how in
    c.at.ensures ∙ reported-is c.args.self.now c.self.inside.place _ c.args.flick v c.self.view_is (then-is c) c.changes_read-changes.ensures c.answer.ensures (c.is_some.ensures ∙ ap is_some c.pending.ensures)

pub returns-clause-marks : goal.returns-clause-marks
returns-clause-marks c =
    let v : Bool = value_of c.step-access.result.how in
    ap marks_reported (progress-is c) ∙ (reported c.args.self.now c.args.flick v c.requires.going).marks

pub returns-clause-going : goal.returns-clause-going
returns-clause-going c =
    let v : Bool = value_of c.step-access.result.how in
    ap is_going (then-is c) ∙ (reported c.args.self.now c.args.flick v c.requires.going).going ∙ sym (ap goes_on (progress-is c))

pub returns-clause-own_writes : goal.returns-clause-own_writes
returns-clause-own_writes c = λ writes.
    write-own c.self.inside.place _ c.args.flick c.step-access.result (ap is_going c.self.view_is ∙ c.requires.going) c.step-access.ensures.access writes
    ∙ ap (λ (x : ProcessState). x.process) c.self.view_is
