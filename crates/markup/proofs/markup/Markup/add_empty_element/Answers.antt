use Rattle.markup.proofs.Assembled.{empty_element_parts}
use Rattle.markup.proofs.Readings.{grows, empty_element_settles, empty_element_read, tags_after}
use Rattle.markup.proofs.markup.Markup.add_empty_element.Goals as goal

pub add_parts-requires : goal.add_parts-requires
add_parts-requires c = empty_element_settles _ c.args.tag c.args.attributes.now (empty_element_parts c.args.tag c.args.attributes.now) c.requires

pub returns-clause-draws : goal.returns-clause-draws
returns-clause-draws c = grows c.add_parts.result _ _ _ _ c.add_parts.ensures.draws (empty_element_parts c.args.tag c.args.attributes.now)

pub returns-clause-read : goal.returns-clause-read
returns-clause-read c = tags_after c.add_parts.result _ _ _ (λ stack. stack) c.add_parts.ensures.read (empty_element_read _ c.args.tag c.args.attributes.now (empty_element_parts c.args.tag c.args.attributes.now))
