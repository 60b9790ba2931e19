use Rattle.picture_layout.proofs.Stages.{stages_are}
use Rattle.picture_layout.proofs.laws.stages_are_the_records.Goals as goal

pub returns : goal.returns
returns c = stages_are
