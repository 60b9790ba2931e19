use Rattle.markup.specs.{begun, tag_name}
use Rattle.markup.proofs.Assembled.{entering_parts}
use Rattle.markup.proofs.Readings.{grows, entering_settles, entering_read, tags_after}
use Rattle.markup.proofs.markup.Markup.enter.Goals as goal

pub add_parts-requires : goal.add_parts-requires
add_parts-requires c = entering_settles _ c.args.tag c.args.attributes.now (entering_parts c.args.tag c.args.attributes.now) c.requires

pub returns-clause-draws : goal.returns-clause-draws
returns-clause-draws c = grows c.add_parts.result _ _ _ _ c.add_parts.ensures.draws (entering_parts c.args.tag c.args.attributes.now)

pub returns-clause-read : goal.returns-clause-read
returns-clause-read c = tags_after c.add_parts.result _ _ _ (begun (tag_name c.args.tag)) c.add_parts.ensures.read (entering_read _ c.args.tag c.args.attributes.now (entering_parts c.args.tag c.args.attributes.now))
