use Rattle.std.proofs.Common.{ap, ◌∙◌}
use Rattle.markup.specs.{opens_in, reading}
use Rattle.markup.proofs.Readings.{frame_read, tags_after}
use Rattle.markup.proofs.markup.Markup.frame.Goals as goal

pub returns-clause-read : goal.returns-clause-read
returns-clause-read c = tags_after c.add.result _ _ _ (opens_in c.args.markup.now) c.add.ensures.read (ap reading c.as_bytes.ensures.value ∙ frame_read c.args.markup.now c.requires.lines)
