use Rattle.std.proofs.Common.{◌++◌}
use Rattle.markup.specs.{escaped, escaped_by, names}
use Rattle.markup.proofs.Runs.{written_all, written_more}
use Rattle.markup.proofs.escaping.push_escaped.Goals as goal

pub loop-byte-preserved : goal.loop-byte-preserved
loop-byte-preserved c =
    written_more (escaped_by names) c.args.text.now c.loop-byte.byte-index 0 (c.args.markup.now.items ++ escaped c.args.text.now) c.loop-byte.markup.items c.push_byte.new.markup.items
    c.loop-byte-test.true c.loop-byte.invariant c.in_ok-push_byte.ensures

pub returns : goal.returns
returns c = written_all (escaped_by names) c.args.text.now c.loop-byte.byte-index (c.args.markup.now.items ++ escaped c.args.text.now) c.loop-byte.markup.items c.loop-byte-test.false c.loop-byte.invariant
