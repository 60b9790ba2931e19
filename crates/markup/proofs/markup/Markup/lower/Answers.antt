use Rattle.std.proofs.Common.{◌∙◌}
use Rattle.markup.specs.{begun, group}
use Rattle.markup.proofs.Assembled.{lowering_parts}
use Rattle.markup.proofs.Readings.{grows, lowering_settles, lowering_read, tags_after}
use Rattle.markup.proofs.markup.Markup.lower.Goals as goal

pub add_parts-requires : goal.add_parts-requires
add_parts-requires c = lowering_settles _ c.args.by (lowering_parts c.args.by c.as_bytes.result.now (c.as_bytes.ensures.value ∙ c.in_ok-digits.ensures.ok))

pub returns-clause-draws : goal.returns-clause-draws
returns-clause-draws c = grows c.add_parts.result _ _ _ _ c.add_parts.ensures.draws (lowering_parts c.args.by c.as_bytes.result.now (c.as_bytes.ensures.value ∙ c.in_ok-digits.ensures.ok))

pub returns-clause-read : goal.returns-clause-read
returns-clause-read c = tags_after c.add_parts.result _ _ _ (begun group) c.add_parts.ensures.read (lowering_read _ c.args.by (lowering_parts c.args.by c.as_bytes.result.now (c.as_bytes.ensures.value ∙ c.in_ok-digits.ensures.ok)))
