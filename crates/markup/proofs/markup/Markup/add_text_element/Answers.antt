use Rattle.markup.proofs.Assembled.{reporting_parts}
use Rattle.markup.proofs.Readings.{grows, reporting_settles, reporting_read, tags_after}
use Rattle.markup.proofs.markup.Markup.add_text_element.Goals as goal

pub add_parts-requires : goal.add_parts-requires
add_parts-requires c = reporting_settles _ c.args.tag c.args.attributes.now c.args.text.now (reporting_parts c.args.tag c.args.attributes.now c.args.text.now)

pub returns-clause-draws : goal.returns-clause-draws
returns-clause-draws c = grows c.add_parts.result _ _ _ _ c.add_parts.ensures.draws (reporting_parts c.args.tag c.args.attributes.now c.args.text.now)

pub returns-clause-read : goal.returns-clause-read
returns-clause-read c = tags_after c.add_parts.result _ _ _ (λ stack. stack) c.add_parts.ensures.read (reporting_read _ c.args.tag c.args.attributes.now c.args.text.now (reporting_parts c.args.tag c.args.attributes.now c.args.text.now))
