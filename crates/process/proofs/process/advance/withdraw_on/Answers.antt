use Rattle.std.proofs.Common.{sym, ap, ◌∙◌, subst, refl}
use Rattle.process.specs.{KeepsPlace, state_at}
use Rattle.process.proofs.ClosingsOn.{still-withdraws, withdraws-marks, withdraws-to}
use Rattle.process.proofs.process.advance.withdraw_on.Goals as goal

pub returns-then-not-is_over : goal.returns-then-not-is_over
returns-then-not-is_over c =
    let k = c.args.called.now in
    let cur = c.args.cursor.now in
    let more = sym c.is_over.ensures ∙ c.if-not-is_over.true in
    record {
      doing = λ fresh flick value before h. ap (λ w. state_at k w cur) c.requires.withdraws ∙ withdraws-to h more;
      marks = λ fresh flick value before h. withdraws-marks h more;
      changes = refl;
      keeps = subst (λ w. KeepsPlace k w cur) (sym c.requires.withdraws) (still-withdraws c.requires.moved.1.3 more);
    }

pub returns : goal.returns
returns c =
    let over = sym c.is_over.ensures ∙ c.if-not-is_over.false in
    record {
      doing = λ fresh flick value before h. withdraws-to h over;
      marks = λ fresh flick value before h. withdraws-marks h over;
      changes = refl;
      keeps = record { call = c.requires.moved.1.3.keeps.call; working = tt };
    }
