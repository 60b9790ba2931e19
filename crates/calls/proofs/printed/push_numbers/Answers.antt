use Rattle.std.proofs.Common.{None, ◌++◌, flat_map}
use Rattle.calls.specs.{number_field}
use Rattle.calls.proofs.Loops.{written_all, written_more}
use Rattle.calls.proofs.printed.push_numbers.Goals as goal

pub loop-number-preserved : goal.loop-number-preserved
loop-number-preserved c =
    written_more number_field c.args.numbers.now c.loop-number.number-index None (c.args.line.now.items ++ flat_map number_field c.args.numbers.now) c.loop-number.line.items c.push_number.new.line.items
    c.loop-number-test.true c.loop-number.invariant c.in_ok-push_number.ensures

pub returns : goal.returns
returns c = written_all number_field c.args.numbers.now c.loop-number.number-index (c.args.line.now.items ++ flat_map number_field c.args.numbers.now) c.loop-number.line.items c.loop-number-test.false c.loop-number.invariant
