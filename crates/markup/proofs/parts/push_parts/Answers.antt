use Rattle.std.proofs.Common.{◌++◌, flat_map}
use Rattle.markup.specs.{part_text}
use Rattle.markup.proofs.Runs.{written_all, written_more}
use Rattle.markup.proofs.parts.push_parts.Goals as goal

pub loop-part-preserved : goal.loop-part-preserved
loop-part-preserved c =
    written_more part_text c.args.parts.now c.loop-part.part-index _ (c.args.bytes.now.items ++ flat_map part_text c.args.parts.now) c.loop-part.bytes.items c.push_part.new.bytes.items
    c.loop-part-test.true c.loop-part.invariant c.in_ok-push_part.ensures

pub returns : goal.returns
returns c = written_all part_text c.args.parts.now c.loop-part.part-index (c.args.bytes.now.items ++ flat_map part_text c.args.parts.now) c.loop-part.bytes.items c.loop-part-test.false c.loop-part.invariant
