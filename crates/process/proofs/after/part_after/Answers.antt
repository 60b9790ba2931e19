use Rattle.std.proofs.Common.{◌≤◌, refl, sym, ap, ◌∙◌, subst}
use Rattle.model.specs.{max_of}
use Rattle.process.specs.{IsOutcome, call_of, part_at}
use Rattle.process.specs.declared.part.ProgramPoint.TheVariants as at
use Rattle.process.proofs.AfterParts.{keeps-then, part-then}
use Rattle.process.proofs.EventOutcomes.{outcome-fits, width-stamp}
use Rattle.process.proofs.after.part_after.Goals as goal

pub after_ticket-requires-clause-fits : goal.after_ticket-requires-clause-fits
after_ticket-requires-clause-fits c =
    let call = call_of c.args.call.now in
    let bits = c.requires.number.0 in
    let out = subst (λ p. IsOutcome call (part_at call c.args.seen.now p) bits c.args.number) c.in-Asks.is c.requires.number.1 in
    outcome-fits call (part_at call c.args.seen.now (at.Asks c.in-Asks.owner)) bits c.args.number out refl

pub after_stamp-requires-clause-fits : goal.after_stamp-requires-clause-fits
after_stamp-requires-clause-fits c =
    let call = call_of c.args.call.now in
    let bits = c.requires.number.0 in
    let out = subst (λ p. IsOutcome call (part_at call c.args.seen.now p) bits c.args.number) c.in-AsksStamp.is c.requires.number.1 in
    subst (λ w. c.args.number ≤ max_of w) (width-stamp call.setup c.in-AsksStamp.commit)
    (outcome-fits call (part_at call c.args.seen.now (at.AsksStamp c.in-AsksStamp.of c.in-AsksStamp.commit)) bits c.args.number out refl)

pub returns-in-Lowers-clause-keeps : goal.returns-in-Lowers-clause-keeps
returns-in-Lowers-clause-keeps c = record { call = c.requires.keeps.call; room = c.requires.keeps.room; holds = c.await_from.ensures.holds c.args.seen.now }

pub returns-in-AwaitsTicket-clause-keeps : goal.returns-in-AwaitsTicket-clause-keeps
returns-in-AwaitsTicket-clause-keeps c = record { call = c.requires.keeps.call; room = c.requires.keeps.room; holds = c.after_wait.ensures.holds c.args.seen.now }

pub returns-in-WritesImage : goal.returns-in-WritesImage
returns-in-WritesImage c =
    let call = call_of c.args.call.now in
    let seen = c.args.seen.now in
    record {
      part = λ bits out. sym (ap (part-then call seen bits) c.in-WritesImage.is);
      keeps = keeps-then call seen c.args.part.now at.WritesImage at.WritesStamp c.requires.keeps c.in-WritesImage.is (λ h. h);
    }

pub returns-in-WritesStamp : goal.returns-in-WritesStamp
returns-in-WritesStamp c =
    let call = call_of c.args.call.now in
    let seen = c.args.seen.now in
    record {
      part = λ bits out. sym (ap (part-then call seen bits) c.in-WritesStamp.is);
      keeps = keeps-then call seen c.args.part.now at.WritesStamp at.WritesCommit c.requires.keeps c.in-WritesStamp.is (λ h. h);
    }

pub returns-in-WritesCommit-clause-part : goal.returns-in-WritesCommit-clause-part
returns-in-WritesCommit-clause-part c = λ bits out. (cc) ∙ sym (ap (part-then (call_of c.args.call.now) c.args.seen.now bits) c.in-WritesCommit.is)
