use Rattle.markup.specs.{begun, drawn, group}
use Rattle.markup.proofs.Assembled.{noting_parts}
use Rattle.markup.proofs.Readings.{grows, noting_settles, noting_read, tags_after}
use Rattle.markup.proofs.markup.Markup.note.Goals as goal

pub add_parts-requires : goal.add_parts-requires
add_parts-requires c = noting_settles _ c.args.title.now (noting_parts c.args.title.now)

pub returns-clause-draws : goal.returns-clause-draws
unfolding drawn
returns-clause-draws c = grows c.add_parts.result _ _ _ _ c.add_parts.ensures.draws (noting_parts c.args.title.now)

pub returns-clause-read : goal.returns-clause-read
returns-clause-read c = tags_after c.add_parts.result _ _ _ (begun group) c.add_parts.ensures.read (noting_read _ c.args.title.now (noting_parts c.args.title.now))
