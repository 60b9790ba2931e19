-- A step of a door, at a place of any call.
use Rattle.std.proofs.Common.{◌≡◌, ℕ, Bool, true, Option, refl, sym, ap, subst, ◌∙◌}
use Rattle.plain_store.specs.declared.Command.TheVariants.{Ask}
use Rattle.model.specs.{Call, Place, Stage, is_fresh, is_at_door, is_waiting_stage, marks_of, place_after, stage_at}
use Rattle.process.specs.laws.{Doing, Rests, Lies, Runs, Closes, call, runs}
use Rattle.model.specs.Closings as closing
use Rattle.process.specs.{ProcessState, full_at, full_of, marks_on, may_step, stage_doing, stepped, ticket_at, ticket_of}
use Rattle.bakery.specs.{DoorProgress}
use Rattle.bakery.specs.Doors.{door_at, goes_on, is_going, is_waiting, marks_reported, progress_on, reports_wait, reported_at}
use Rattle.bakery.proofs.AnyCall.{same-after, same-marked}
use Rattle.bakery.proofs.AtDoor.{AtDoor, at-door, said, stage-runs}

-- a process at its door goes
going-by : (d : Doing) → is_at_door (stage_doing d) ≡ true → may_step d ≡ true
going-by Rests queued = absurd (cc)
going-by Lies queued = absurd (cc)
going-by (Runs command number at) queued = refl
going-by (Closes command number at) queued = refl

-- the result of its step
record IsReported (d : ProcessState) (flick v : Bool) : Type 0 where
  pub going : is_going (stepped d flick v) ≡ goes_on (progress_on d (stepped d flick v))
  pub waiting : is_waiting (stepped d flick v) ≡ reports_wait (progress_on d (stepped d flick v))
  pub marks : marks_reported (stage_doing d.doing) (progress_on d (stepped d flick v)) ≡ marks_on d flick v

reported-by : (d : ProcessState) (does : Doing) (flick v : Bool) → is_at_door (stage_doing does) ≡ true → IsReported (record d { doing = does }) flick v
reported-by d Rests flick v queued = absurd (cc)
reported-by d Lies flick v queued = absurd (cc)
reported-by d (Closes command number (closing.Withdraws w)) flick v queued = absurd (cc)
reported-by d (Closes command number (closing.Settles f b begun taken inside t)) flick v queued = absurd (cc)
reported-by d (Closes command number (closing.Frees inside w)) flick v queued = absurd (cc)
reported-by d (Closes command number (closing.Lowers w)) flick v queued = absurd (cc)
reported-by d (Closes command number closing.Quit) flick v queued = absurd (cc)
reported-by d (Closes command number closing.Ended) flick v queued = absurd (cc)
reported-by d (Runs command number at) flick v queued =
    let c : Call = call d.setup d.process command number in
    let s = said c at v queued in
    let next = stage-runs command number (place_after c at v) in
    record {
      going = subst (λ stage. is_at_door stage ≡ goes_on (reported_at stage (ticket_at at.part) (full_at at.part))) (sym next) s.going;
      waiting = subst (λ stage. is_waiting_stage stage ≡ reports_wait (reported_at stage (ticket_at at.part) (full_at at.part))) (sym next) s.waiting;
      marks = subst (λ stage. marks_reported (stage_at at) (reported_at stage (ticket_at at.part) (full_at at.part)) ≡ marks_of c at v) (sym next) (sym s.marks);
    }

reported : (d : ProcessState) (flick v : Bool) → is_going d ≡ true → IsReported d flick v
reported d flick v queued = reported-by d d.doing flick v queued

-- the result as the code computes it
pub record Reports (d then : ProcessState) (progress : DoorProgress) (flick v : Bool) : Type 0 where
  pub is : progress ≡ progress_on d (stepped d flick v)
  pub going : is_going then ≡ goes_on progress
  pub waiting : is_waiting then ≡ reports_wait progress
  pub marks : marks_reported (stage_doing d.doing) progress ≡ marks_on d flick v

pub reports : {s : Stage} {ticket full : Option ℕ} {progress : DoorProgress} {place then : ProcessState} {given v : Bool} (d : ProcessState) (flick : Bool) → place ≡ d → then ≡ stepped place flick given → given ≡ v → s ≡ stage_doing then.doing → ticket ≡ ticket_of place.doing → full ≡ full_of place.doing → progress ≡ reported_at s ticket full → is_going d ≡ true → Reports d then progress flick v
reports {s} {ticket} {full} {progress} {place} {then} {given} {v} d flick same goes gives stage has refused at queued =
    let went : then ≡ stepped d flick v = goes ∙ (λ i. stepped (same i) flick (gives i)) in
    let t = reported d flick v queued in
    let is : progress ≡ progress_on d (stepped d flick v) =
    at
    ∙ (λ i. reported_at (stage i) (has i) (refused i))
    ∙ (λ i. reported_at (stage_doing (went i).doing) (ticket_of (same i).doing) (full_of (same i).doing)) in
    record {
      is = is;
      going = ap is_going went ∙ t.going ∙ sym (ap goes_on is);
      waiting = ap is_waiting went ∙ t.waiting ∙ sym (ap reports_wait is);
      marks = ap (marks_reported (stage_doing d.doing)) is ∙ t.marks;
    }

-- ANY CALL

queued-at : (c : Call) (at : Place) (d : ProcessState) → d ≡ door_at c at → is_going d ≡ true → AtDoor at.part
queued-at c at d is queued = at-door at.part (is_fresh at.run) (sym (ap (λ (x : ProcessState). is_at_door (stage_doing x.doing)) is) ∙ queued)

pub any-after : (c : Call) (at : Place) (d : ProcessState) (flick v : Bool) → d ≡ door_at c at → is_going d ≡ true → (let then : ProcessState = record d { doing = runs Ask 0 (place_after c at v) } in stepped d flick v ≡ then)
any-after c at d flick v is queued =
    ap (λ x. stepped x flick v) is
    ∙ ap (λ (to : Place). let x : ProcessState = record { setup = c.setup; process = c.process; doing = runs Ask 0 to; command = Ask; number = 0 } in x) (same-after c at v (queued-at c at d is queued))
    ∙ sym (ap (λ (x : ProcessState). let y : ProcessState = record x { doing = runs Ask 0 (place_after c at v) } in y) is)

pub any-marks : (c : Call) (at : Place) (d : ProcessState) (flick v : Bool) → d ≡ door_at c at → is_going d ≡ true → marks_of c at v ≡ marks_reported (stage_at at) (progress_on d (stepped d flick v))
any-marks c at d flick v is queued =
    sym (same-marked c at v (queued-at c at d is queued))
    ∙ sym (ap (λ x. marks_on x flick v) is)
    ∙ sym (reported d flick v queued).marks
    ∙ ap (λ (x : ProcessState). marks_reported (stage_doing x.doing) (progress_on d (stepped d flick v))) is
