use Rattle.markup.proofs.Assembled.{marking_parts}
use Rattle.markup.proofs.Readings.{grows, marking_settles, marking_read, mark_after}
use Rattle.markup.proofs.markup.Markup.mark.Goals as goal

pub add_parts-requires : goal.add_parts-requires
add_parts-requires c = marking_settles _ c.args.attributes.now c.args.line.now (marking_parts c.args.attributes.now c.args.line.now)

pub returns-clause-draws : goal.returns-clause-draws
returns-clause-draws c = grows c.add_parts.result _ _ _ _ c.add_parts.ensures.draws (marking_parts c.args.attributes.now c.args.line.now)

pub returns-clause-read : goal.returns-clause-read
returns-clause-read c = mark_after c.add_parts.result _ _ _ c.args.line.now c.add_parts.ensures.read (marking_read _ c.args.attributes.now c.args.line.now (marking_parts c.args.attributes.now c.args.line.now))
