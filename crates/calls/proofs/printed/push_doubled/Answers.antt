use Rattle.std.proofs.Common.{◌++◌, flat_map}
use Rattle.calls.specs.{doubled}
use Rattle.calls.proofs.Loops.{written_all, written_more}
use Rattle.calls.proofs.printed.push_doubled.Goals as goal

pub loop-byte-preserved : goal.loop-byte-preserved
loop-byte-preserved c =
    written_more doubled c.args.text.now c.loop-byte.byte-index 0 (c.args.line.now.items ++ flat_map doubled c.args.text.now) c.loop-byte.line.items c.push_byte.new.line.items
    c.loop-byte-test.true c.loop-byte.invariant c.in_ok-push_byte.ensures

pub returns : goal.returns
returns c = written_all doubled c.args.text.now c.loop-byte.byte-index (c.args.line.now.items ++ flat_map doubled c.args.text.now) c.loop-byte.line.items c.loop-byte-test.false c.loop-byte.invariant
