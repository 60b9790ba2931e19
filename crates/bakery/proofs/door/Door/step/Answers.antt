use Rattle.std.proofs.Common.{Bool, refl, sym, ap, ◌∙◌}
use Rattle.model.specs.{stage_at, value_of}
use Rattle.process.specs.{stepped}
use Rattle.bakery.specs.Doors.{marks_reported}
use Rattle.bakery.proofs.DoorSteps.{Reports, any-after, any-marks, reports}
use Rattle.bakery.proofs.door.Door.step.Goals as goal

pub returns-clause-any_door : goal.returns-clause-any_door
returns-clause-any_door c = λ call at is.
    let v : Bool = value_of c.step-access.result.how in
    c.step-access.ensures.process ∙ (λ i. stepped (c.self.view_is i) c.args.flick v)
    ∙ any-after call at c.args.self.now c.args.flick v is c.requires.going

made : (c : goal.After-at) → Reports c.args.self.now c.step-access.new.place c.at.result c.args.flick (value_of c.step-access.result.how)
made c = reports c.args.self.now c.args.flick c.self.view_is c.step-access.ensures.process refl c.stage.ensures c.ticket-ticket.ensures c.full-full.ensures c.at.ensures c.requires.going

pub returns-clause-marks : goal.returns-clause-marks
returns-clause-marks c = (made c).marks

pub returns-clause-any_marks : goal.returns-clause-any_marks
returns-clause-any_marks c = λ call at is.
    any-marks call at c.args.self.now c.args.flick (value_of c.step-access.result.how) is c.requires.going ∙ sym (ap (marks_reported (stage_at at)) (made c).is)

pub returns-clause-going : goal.returns-clause-going
returns-clause-going c = (made c).going

pub returns-clause-waiting : goal.returns-clause-waiting
returns-clause-waiting c = (made c).waiting
