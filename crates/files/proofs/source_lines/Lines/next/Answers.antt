use Rattle.std.proofs.Common.{◌+◌, ◌<◌, ℕ, ◌≡◌, Bool, true, false, List, length, Err, refl, subst, sym}
use Rattle.files.specs.{Fault, failed_reading}
use Rattle.files.proofs.CallEnds.{counts_fault, no_value}
use Rattle.files.proofs.FirstLines.{stops, reports_long}
use Rattle.files.proofs.source_lines.Lines.next.Goals as goal

-- a call fails, or memory runs out
pub returns-in_err-take : goal.returns-in_err-take
returns-in_err-take g c =
    let to_come = g.R.Source.to_come in
    let failures = g.R.Source.failures in
    let fault = c.in_err-take.field-0.0 in
    let is = c.from_residual.ensures.1 in
    record {
      next = stops c.from_residual.result fault c.args.self.now c.take.new.self (to_come c.args.input.now) (to_come c.take.new.input) is c.in_err-take.ensures.fault;
      ended = no_value c.from_residual.result fault (λ some. some ≡ false → c.take.new.self.ahead.ended ≡ true) is;
      holds = c.in_err-take.ensures.holds;
      stays_ended = c.in_err-take.ensures.stays_ended;
      left_alone = c.in_err-take.ensures.left_alone;
      failures = counts_fault c.from_residual.result fault (failures c.args.input.now) (failures c.args.input.now) (failures c.take.new.input) is refl c.in_err-take.ensures.failures;
    }

-- a line is too long
pub returns-then-line-gt-MOST_BYTES : goal.returns-then-line-gt-MOST_BYTES
returns-then-line-gt-MOST_BYTES g c =
    let to_come = g.R.Source.to_come in
    let long = subst (λ (l : List ℕ). 128 < length l) c.line.ensures c.if-line-gt-MOST_BYTES.true in
    record {
      next = reports_long c.behind.result c.args.self.now c.take.new.self (to_come c.args.input.now) (to_come c.take.new.input) c.behind.ensures c.in_ok-take.ensures.taken (c.in_ok-take.ensures.long c.if-not-branch.false long);
      ended = tt;
      holds = c.in_ok-take.ensures.holds;
      stays_ended = c.in_ok-take.ensures.stays_ended;
      left_alone = c.in_ok-take.ensures.left_alone;
      failures = subst (λ (e : Fault). g.R.Source.failures c.take.new.input ≡ g.R.Source.failures c.args.input.now + failed_reading {A = Bool} (Err e)) (sym c.behind.ensures) c.in_ok-take.ensures.failures;
    }

-- there is no line
pub returns-then-not-branch : goal.returns-then-not-branch
returns-then-not-branch g c =
    let none = c.in_ok-take.ensures.end c.if-not-branch.true in
    record {
      next = record { taken = c.in_ok-take.ensures.taken; before = none.0; behind = none.1 };
      ended = λ _. c.in_ok-take.ensures.ended c.if-not-branch.true;
      holds = c.in_ok-take.ensures.holds;
      stays_ended = c.in_ok-take.ensures.stays_ended;
      left_alone = c.in_ok-take.ensures.left_alone;
      failures = c.in_ok-take.ensures.failures;
    }

-- the line's number is too great
pub returns-then-self-ge-MOST_LINES : goal.returns-then-self-ge-MOST_LINES
returns-then-self-ge-MOST_LINES g c = record {
  next = tt;
  ended = tt;
  holds = c.in_ok-take.ensures.holds;
  stays_ended = c.in_ok-take.ensures.stays_ended;
  left_alone = c.in_ok-take.ensures.left_alone;
  failures = c.in_ok-take.ensures.failures;
}
