use Rattle.std.proofs.Common.{arith, sym, ◌∙◌}
use Rattle.lock_stages.specs.{is_other_inside}
use Rattle.lock_stages.proofs.Lowest.{lowest_found, lowest_none}
use Rattle.lock_stages.proofs.order.other_inside.Goals as goal

pub returns-then-is_other_inside : goal.returns-then-is_other_inside
returns-then-is_other_inside g c = λ passage have.
    sym (lowest_found c.args.processes c.loop-other.other (is_other_inside passage c.args.process) (c.loop-other.invariant passage have)
    (sym (c.is_other_inside.ensures passage (have c.loop-other.other (omega (arith, c.loop-other-test.true, c.requires)))) ∙ c.if-is_other_inside.true) c.loop-other-test.true)

pub loop-other-preserved : goal.loop-other-preserved
loop-other-preserved g c = λ passage have.
    lowest_none c.loop-other.other (is_other_inside passage c.args.process) (c.loop-other.invariant passage have)
    (sym (c.is_other_inside.ensures passage (have c.loop-other.other (omega (arith, c.loop-other-test.true, c.requires)))) ∙ c.if-is_other_inside.false)
