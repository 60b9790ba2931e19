use Rattle.std.proofs.Common.{◌≡◌, ℕ, List, [], not, ap, arith, refl, subst, sym, ◌∙◌}
use Rattle.std.specs.Io.KnownBytes.{Consumes}
use Rattle.std.specs.List.{list_all}
use Rattle.files.specs.{TakesLine, Reported, coming, is_inner}
use Rattle.files.specs.declared.faults.Fault.TheVariants.{Memory}
use Rattle.files.proofs.CallEnds.{counts_fault, no_value, reports_fault}
use Rattle.files.proofs.FirstLines.{all_inner, cut_long, ended, fed, fed_all, fed_long, none_came, none_taken}
use Rattle.files.proofs.source_lines.take_line.Goals as goal

pub parts-init : goal.parts-init
parts-init g c =
    let all = coming c.args.ahead.now.given (g.R.Source.to_come c.args.input.now) in
    let none : c.clear.new.self.items ≡ [] = c.clear.ensures.items in
    record {
      front = subst (λ (l : List ℕ). Consumes all all l) (sym none) (none_taken all);
      inner = ap (list_all is_inner) none;
      holds = λ h. h;
      stays_ended = λ e. e;
      left_alone = λ _. refl;
      whole = refl;
    }

-- no 0x0A ends the line so far
pub parts-preserved : goal.parts-preserved
parts-preserved g c =
    let inv = c.parts.invariant in
    let all = coming c.args.ahead.now.given (g.R.Source.to_come c.args.input.now) in
    let mid = coming c.parts.ahead.given (g.R.Source.to_come c.parts.input) in
    let moves = c.in_ok-move_to.ensures.all c.if-branch.false in
    record {
      front = fed_all all mid c.fill.new.self.given c.move_to.new.self.given (g.R.Source.to_come c.fill.new.input) c.parts.line.items c.move_to.new.line.items inv.front (c.in_ok-fill.ensures.stays c.if-not-branch.false) moves c.in_ok-move_to.ensures.source;
      inner = all_inner c.fill.new.self.given.bytes c.move_to.new.self.given.bytes c.parts.line.items c.move_to.new.line.items inv.inner moves;
      holds = λ h e. c.in_ok-fill.ensures.holds (inv.holds h) (sym c.in_ok-move_to.ensures.source ∙ e);
      stays_ended = λ e. c.in_ok-move_to.ensures.source ∙ c.in_ok-fill.ensures.stays_ended (inv.stays_ended e);
      left_alone = λ e. c.in_ok-fill.ensures.left_alone (inv.stays_ended e) ∙ inv.left_alone e;
      whole = omega (arith, c.in_ok-fill.ensures.failures, inv.whole);
    }

-- the end of the input ends a line that has begun
pub returns-then-not-branch : goal.returns-then-not-branch
returns-then-not-branch g c =
    let inv = c.parts.invariant in
    let all = coming c.args.ahead.now.given (g.R.Source.to_come c.args.input.now) in
    let mid = coming c.parts.ahead.given (g.R.Source.to_come c.parts.input) in
    let rest = coming c.fill.new.self.given (g.R.Source.to_come c.fill.new.input) in
    record {
      line = λ some short. ended all mid rest c.parts.line.items c.parts.line.len (omega (arith, c.parts.line.ok.0)) (ap not (sym c.is_empty.ensures) ∙ some) inv.inner inv.front (c.in_ok-fill.ensures.end c.if-not-branch.true);
      long = λ some long. fed_long all rest c.parts.line.items (ended all mid rest c.parts.line.items c.parts.line.len (omega (arith, c.parts.line.ok.0)) (ap not (sym c.is_empty.ensures) ∙ some) inv.inner inv.front (c.in_ok-fill.ensures.end c.if-not-branch.true)) long;
      end = λ none. none_came all mid rest c.parts.line.items c.parts.line.len (omega (arith, c.parts.line.ok.0)) (ap not (sym c.is_empty.ensures) ∙ none) inv.front (c.in_ok-fill.ensures.end c.if-not-branch.true);
      ended = λ _. c.in_ok-fill.ensures.ended c.if-not-branch.true;
      holds = λ h. c.in_ok-fill.ensures.holds (inv.holds h);
      stays_ended = λ e. c.in_ok-fill.ensures.stays_ended (inv.stays_ended e);
      left_alone = λ e. c.in_ok-fill.ensures.left_alone (inv.stays_ended e) ∙ inv.left_alone e;
      fault = tt;
      failures = omega (arith, c.in_ok-fill.ensures.failures, inv.whole);
    }

-- a 0x0A ends the line
pub returns-then-branch : goal.returns-then-branch
returns-then-branch g c =
    let inv = c.parts.invariant in
    let all = coming c.args.ahead.now.given (g.R.Source.to_come c.args.input.now) in
    let mid = coming c.parts.ahead.given (g.R.Source.to_come c.parts.input) in
    let remaining = g.R.Source.to_come c.fill.new.input in
    let reported = subst (λ (l : List ℕ). Reported all (coming c.move_to.new.self.given remaining) (λ text rest. TakesLine text l rest)) (sym {A = List ℕ} c.drop_return.ensures)
    (fed all mid c.fill.new.self.given c.move_to.new.self.given remaining c.parts.line.items c.move_to.new.line.items inv.inner inv.front (c.in_ok-fill.ensures.stays c.if-not-branch.false) (c.in_ok-move_to.ensures.ended c.if-branch.true) c.in_ok-move_to.ensures.source) in
    record {
      line = λ some short. reported;
      long = λ some long. fed_long all (coming c.move_to.new.self.given remaining) c.drop_return.new.line.items reported long;
      end = λ e. absurd (cc);
      ended = λ e. absurd (cc);
      holds = λ h e. c.in_ok-fill.ensures.holds (inv.holds h) (sym c.in_ok-move_to.ensures.source ∙ e);
      stays_ended = λ e. c.in_ok-move_to.ensures.source ∙ c.in_ok-fill.ensures.stays_ended (inv.stays_ended e);
      left_alone = λ e. c.in_ok-fill.ensures.left_alone (inv.stays_ended e) ∙ inv.left_alone e;
      fault = tt;
      failures = omega (arith, c.in_ok-fill.ensures.failures, inv.whole);
    }

-- more bytes than a line may have begin a line that is too long
pub returns : goal.returns
returns g c =
    let inv = c.parts.invariant in
    let all = coming c.args.ahead.now.given (g.R.Source.to_come c.args.input.now) in
    let mid = coming c.parts.ahead.given (g.R.Source.to_come c.parts.input) in
    record {
      line = λ some short. absurd {A = Reported all mid (λ text remaining. TakesLine text c.parts.line.items remaining)} (omega (arith, c.parts-test.false));
      long = λ some long. cut_long all mid c.parts.line.items inv.inner inv.front (omega (arith, c.parts-test.false));
      end = λ e. absurd (cc);
      ended = λ e. absurd (cc);
      holds = inv.holds;
      stays_ended = inv.stays_ended;
      left_alone = inv.left_alone;
      fault = tt;
      failures = omega (arith, inv.whole);
    }

-- a call fails, or memory runs out
pub returns-in_err-fill : goal.returns-in_err-fill
returns-in_err-fill g c =
    let inv = c.parts.invariant in
    let failures = g.R.Source.failures in
    let fault = c.in_err-fill.field-0.0 in
    let r = c.from_residual.result in
    let is = c.from_residual.ensures.1 in
    record {
      line = no_value r fault _ is;
      long = no_value r fault _ is;
      end = no_value r fault _ is;
      ended = no_value r fault _ is;
      holds = λ h. c.in_err-fill.ensures.holds (inv.holds h);
      stays_ended = λ e. c.in_err-fill.ensures.stays_ended (inv.stays_ended e);
      left_alone = λ e. c.in_err-fill.ensures.left_alone (inv.stays_ended e) ∙ inv.left_alone e;
      fault = reports_fault r fault is c.in_err-fill.ensures.fault;
      failures = counts_fault r fault (failures c.args.input.now) (failures c.parts.input) (failures c.fill.new.input) is inv.whole c.in_err-fill.ensures.failures;
    }

pub returns-in_err-move_to : goal.returns-in_err-move_to
returns-in_err-move_to g c =
    let inv = c.parts.invariant in
    let failures = g.R.Source.failures in
    let r = c.from_residual-in_err-move_to.result in
    let is = c.from_residual-in_err-move_to.ensures.1 in
    record {
      line = no_value r Memory _ is;
      long = no_value r Memory _ is;
      end = no_value r Memory _ is;
      ended = no_value r Memory _ is;
      holds = λ h e. c.in_ok-fill.ensures.holds (inv.holds h) (sym c.in_err-move_to.ensures.source ∙ e);
      stays_ended = λ e. c.in_err-move_to.ensures.source ∙ c.in_ok-fill.ensures.stays_ended (inv.stays_ended e);
      left_alone = λ e. c.in_ok-fill.ensures.left_alone (inv.stays_ended e) ∙ inv.left_alone e;
      fault = reports_fault r Memory is tt;
      failures = counts_fault r Memory (failures c.args.input.now) (failures c.parts.input) (failures c.fill.new.input) is inv.whole c.in_ok-fill.ensures.failures;
    }
