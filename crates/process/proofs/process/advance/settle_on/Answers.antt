use Rattle.std.proofs.Common.{◌≡◌, Bool, [], cond, false, get_or, unwrap_or, refl, sym, ap, ◌∙◌, subst}
use Rattle.model.specs.{settled_marks}
use Rattle.process.specs.declared.activity.Activity.TheVariants as work
use Rattle.process.specs.{KeepsPlace, reply_taken, state_at}
use Rattle.process.proofs.ClosingsOn.{clears-ticket}
use Rattle.process.proofs.SettlesOn.{settles-marks, settles-over, settles-within, still-settles, value-settled}
use Rattle.process.proofs.process.advance.settle_on.Goals as goal

pub returns-then-not-is_over : goal.returns-then-not-is_over
returns-then-not-is_over c =
    let k = c.args.called.now in
    let cur = c.args.cursor.now in
    let taken = c.args.taken.now in
    let m = c.requires.moved.1 in
    let more = sym c.is_over.ensures ∙ c.if-not-is_over.true in
    record {
      doing = λ fresh flick value before h. ap (λ w. state_at k w cur) c.requires.settles ∙ settles-within k c.args.inside flick value taken before cur fresh h more;
      marks = λ fresh flick value before h. sym (settles-marks k c.args.inside flick value taken before cur fresh h
          ∙ ap (λ b. cond b (settled_marks (get_or before.bits before.bit false) (reply_taken taken) (unwrap_or h.keeps.working.value flick)) []) more);
      changes = refl;
      keeps = subst (λ w. KeepsPlace k w cur) (sym c.requires.settles) (still-settles k c.args.inside m.0 m.1 taken m.2 cur c.requires.moved.0 m.3 more);
    }

pub value_settled-value-requires : goal.value_settled-value-requires
value_settled-value-requires c =
    let m = c.requires.moved.1 in
    let at = m.3.keeps.working in
    (at.cut, unwrap_or at.value m.0, value-settled c.args.called.now c.args.inside m.0 m.1 c.args.taken.now m.2 c.args.cursor.now c.requires.moved.0 m.3)

pub clear-requires : goal.clear-requires
clear-requires c =
    let call = c.requires.moved.1.3.keeps.call in
    record { call = call; narrow = call.few_ticket }

pub returns : goal.returns
returns c =
    let k = c.args.called.now in
    let cur = c.args.cursor.now in
    let inside = c.args.inside in
    let taken = c.args.taken.now in
    let over = sym c.is_over.ensures ∙ c.if-not-is_over.false in
    record {
      doing = λ fresh flick value before h. ap (state_at k (work.Frees inside)) c.clear.ensures ∙ settles-over k inside flick value taken before cur fresh h over;
      marks = λ fresh flick value before h.
          let at = h.keeps.working in
          let begun : Bool = get_or before.bits before.bit false in
          let v : Bool = unwrap_or at.value flick in
          let is : c.value_settled-value.result ≡ v = c.value_settled-value.ensures at.cut v (value-settled k inside flick value taken before cur fresh h) in
          c.outcome_of_settling.ensures.marks begun at.written
          ∙ ap (settled_marks begun (reply_taken taken)) is
          ∙ sym (settles-marks k inside flick value taken before cur fresh h ∙ ap (λ b. cond b (settled_marks begun (reply_taken taken) v) []) over);
      changes = c.outcome_of_settling.ensures.changes;
      keeps = subst (KeepsPlace k (work.Frees inside)) (sym c.clear.ensures) (clears-ticket k inside c.requires.moved.1.3.keeps.call);
    }
