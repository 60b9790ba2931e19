use Rattle.std.proofs.Common.{◌++◌, flat_map}
use Rattle.markup.specs.{attribute_text}
use Rattle.markup.proofs.Runs.{written_all, written_more}
use Rattle.markup.proofs.attributes.push_attributes.Goals as goal

pub loop-attribute-preserved : goal.loop-attribute-preserved
loop-attribute-preserved c =
    written_more attribute_text c.args.attributes.now c.loop-attribute.attribute-index _ (c.args.bytes.now.items ++ flat_map attribute_text c.args.attributes.now) c.loop-attribute.bytes.items c.push_attribute.new.bytes.items
    c.loop-attribute-test.true c.loop-attribute.invariant c.in_ok-push_attribute.ensures

pub returns : goal.returns
returns c = written_all attribute_text c.args.attributes.now c.loop-attribute.attribute-index (c.args.bytes.now.items ++ flat_map attribute_text c.args.attributes.now) c.loop-attribute.bytes.items c.loop-attribute-test.false c.loop-attribute.invariant
