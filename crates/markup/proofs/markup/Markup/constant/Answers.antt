use Rattle.std.proofs.Common.{ap, ◌∙◌}
use Rattle.markup.specs.{reading}
use Rattle.markup.proofs.Readings.{even_read, tags_after}
use Rattle.markup.proofs.markup.Markup.constant.Goals as goal

pub returns-clause-read : goal.returns-clause-read
returns-clause-read c = tags_after c.add.result _ _ _ (λ stack. stack) c.add.ensures.read (ap reading c.as_bytes.ensures.value ∙ even_read c.args.markup.now c.requires.lines c.requires.even)
