use Rattle.std.proofs.Common.{◌≡◌, ◌++◌, drop, flat_map}
use Rattle.markup.specs.{attribute_text}
use Rattle.markup.proofs.attributes.push_attributes.Given as goal

-- the attributes so far and those to come are all attributes
abbrev pub invariant-loop-attribute : goal.invariant-loop-attribute
invariant-loop-attribute l = l.bytes.items ++ flat_map attribute_text (drop l.attribute-index l.attributes) ≡ l.fn.bytes.items ++ flat_map attribute_text l.attributes
