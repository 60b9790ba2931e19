use Rattle.std.proofs.Common.{◌≡◌, ℕ, suc, ◌+◌, ◌-◌, length, ap, sym, ◌∙◌, arith}
use Rattle.scenario.proofs.PrintedNumbers.{count_ended, count_more, many_from}
use Rattle.scenario.proofs.making.count_from.Goals as goal

-- one more number
pub loop-number-preserved : goal.loop-number-preserved
loop-number-preserved c =
    let n : ℕ = c.loop-number.number in
    let one : c.args.first + c.args.count - n ≡ suc (c.args.first + c.args.count - (n + 1)) = omega (arith, c.loop-number-test.true) in
    count_more c.loop-number.numbers.items c.push.new.self.items n (c.args.first + c.args.count - n) (c.args.first + c.args.count - (n + 1)) c.in_ok-push.ensures.items one ∙ c.loop-number.invariant

pub returns-clause-many : goal.returns-clause-many
returns-clause-many c =
    let n : ℕ = c.loop-number.number in
    let none : c.args.first + c.args.count - n ≡ 0 = omega (arith, c.loop-number-test.false) in
    ap length (sym (count_ended c.loop-number.numbers.items n (c.args.first + c.args.count - n) none) ∙ c.loop-number.invariant) ∙ many_from c.args.first c.args.count
