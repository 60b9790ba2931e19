use Rattle.std.proofs.Common.{refl}
use Rattle.markup.proofs.Readings.{field_settles, field_read, tags_after}
use Rattle.markup.proofs.markup.Markup.input.Goals as goal

pub add_parts-requires : goal.add_parts-requires
add_parts-requires c = field_settles _ c.args.attributes.now refl

pub returns-clause-read : goal.returns-clause-read
returns-clause-read c = tags_after c.add_parts.result _ _ _ (λ stack. stack) c.add_parts.ensures.read (field_read _ c.args.attributes.now refl)
