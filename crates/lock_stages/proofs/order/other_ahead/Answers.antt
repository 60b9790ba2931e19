use Rattle.std.proofs.Common.{arith, sym, ◌∙◌}
use Rattle.lock_stages.specs.{is_ahead}
use Rattle.lock_stages.proofs.Lowest.{lowest_found, lowest_none}
use Rattle.lock_stages.proofs.order.other_ahead.Goals as goal

pub returns-then-is_ahead : goal.returns-then-is_ahead
returns-then-is_ahead g c = λ passage have.
    sym (lowest_found c.args.processes c.loop-other.other (is_ahead passage c.args.process) (c.loop-other.invariant passage have)
    (sym (c.is_ahead.ensures passage (have c.loop-other.other (omega (arith, c.loop-other-test.true, c.requires.processes))) (have c.args.process c.requires.process)) ∙ c.if-is_ahead.true) c.loop-other-test.true)

pub loop-other-preserved : goal.loop-other-preserved
loop-other-preserved g c = λ passage have.
    lowest_none c.loop-other.other (is_ahead passage c.args.process) (c.loop-other.invariant passage have)
    (sym (c.is_ahead.ensures passage (have c.loop-other.other (omega (arith, c.loop-other-test.true, c.requires.processes))) (have c.args.process c.requires.process)) ∙ c.if-is_ahead.false)
