use Rattle.std.proofs.Common.{rules}
use Rattle.scenario.proofs.Numerals.{value_more, value_beyond}
use Rattle.scenario.proofs.numbers.value_of.Goals as goal

-- one more digit
pub loop-digit-preserved : goal.loop-digit-preserved
loop-digit-preserved c = value_more c.args.digits.now c.loop-digit.digit-index _ c.loop-digit.value c.in_ok-value.value c.in_ok-value.ensures c.loop-digit.invariant c.requires c.loop-digit-test.true (search rules)

-- the digits so far write a number of more than 64 bits, so all digits do
pub returns-in_err-value : goal.returns-in_err-value
returns-in_err-value c = search (rules, value_beyond c.args.digits.now c.loop-digit.digit-index _ c.loop-digit.value _ c.in_err-value.ensures c.loop-digit.invariant c.requires c.loop-digit-test.true (search rules))
