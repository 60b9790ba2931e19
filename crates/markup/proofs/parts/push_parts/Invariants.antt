use Rattle.std.proofs.Common.{◌≡◌, ◌++◌, drop, flat_map}
use Rattle.markup.specs.{part_text}
use Rattle.markup.proofs.parts.push_parts.Given as goal

-- the parts so far and those to come are all parts
abbrev pub invariant-loop-part : goal.invariant-loop-part
invariant-loop-part l = l.bytes.items ++ flat_map part_text (drop l.part-index l.parts) ≡ l.fn.bytes.items ++ flat_map part_text l.parts
